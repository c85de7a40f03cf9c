-- The invariant: what stays so far is written, and the rest of it is to come.
use mathlib.Core.Bool.{Bool}
use mathlib.Core.List.{List}
use Prim.Native.Nat.{ℕ, ◌-◌}
use Rattle.std.specs.Fn.{FnReturnsAt}
use Rattle.items.proofs.Loops.{Left}
use Rattle.area_drop.specs.Drops.{Tests}
use Rattle.area_drop.proofs.Dropping.{Keeping}
use Rattle.area_drop.proofs.write_without.Given as goal

abbrev pub invariant-loop : goal.invariant-loop
invariant-loop g l =
    Left l.area l.at (l.count - l.counter)
    × ((p : List ℕ → Bool) → Tests (FnReturnsAt g.F.Fn l.goes) p → Keeping p l.area l.count l.initial.out l.out l.at (l.count - l.counter) l.to)
