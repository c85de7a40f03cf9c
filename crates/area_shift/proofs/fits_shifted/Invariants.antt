-- The invariant: what is left so far has `size` bytes, within the limit, and what is left of the rest is to come.
use Prim.Native.Nat.{◌+◌, ◌-◌, ◌≤◌}
use native.Mathlib.Omega.{arith}
use mathlib.Core.Path.{sym, ◌∙◌}
use borrow.Author.Rules.{rules}
use borrow.Author.Tests.{not-true, not-false}
use Rattle.items.proofs.Loops.{Turn, turn, never}
use Rattle.area_shift.proofs.Shifting.{Sizing, size-begin, size-drop, size-keep, size-over, size_fits, ample}
use Rattle.area_shift.proofs.fits_shifted.Given as goal

abbrev pub invariant-loop : goal.invariant-loop
invariant-loop l = Sizing l.mode l.steps.0 l.area l.count l.at (l.count - l.counter) l.size × (l.size ≤ l.limit)
