-- The invariant: what the shift leaves so far is written, and the rest of it is to come.
use mathlib.Core.Path.{sym, ◌∙◌}
use Prim.Native.Nat.{◌+◌, ◌-◌}
use native.Mathlib.Omega.{arith}
use borrow.Author.Rules.{rules}
use borrow.Author.Tests.{not-true, not-false}
use Rattle.lists.proofs.Wrote.{next}
use Rattle.items.proofs.Loops.{Turn, turn, never}
use Rattle.area_shift.proofs.Shifting.{Writing, write-begin, write-drop, write-room, write-few, write-keep, write-end}
use Rattle.area_shift.proofs.write_shifted.Given as goal

abbrev pub invariant-loop : goal.invariant-loop
invariant-loop l = Writing l.mode l.steps.0 l.area l.count l.initial.out l.out l.at (l.count - l.counter) l.n l.o
