-- The invariant: all are valid where those are that are left.
use mathlib.Core.Path.{◌≡◌, refl, sym, ap, ◌∙◌}
use mathlib.Core.Bool.{true}
use mathlib.Core.List.{◌∷◌}
use Prim.Native.Nat.{◌+◌, ◌-◌}
use native.Mathlib.Omega.{arith}
use borrow.Author.Rules.{rules}
use borrow.Author.Tests.{not-true, not-false}
use lib.ListN.{drop}
use Rattle.items.specs.Items.{items_in}
use Rattle.items.proofs.Loops.{Left, begin, Turn, turn, turn-flags, never, items-none}
use Rattle.calls.specs.Gate.{item_valid, all_valid}
use Rattle.gate.proofs.Clean.{by_parts, valid-none, bad-item, valid-more}
use Rattle.gate.proofs.all_valid.Given as goal

abbrev pub invariant-loop : goal.invariant-loop
invariant-loop l = Left l.area l.at (l.count - l.counter) × (all_valid (items_in l.count l.area) ≡ all_valid (items_in (l.count - l.counter) (drop l.at l.area)))
