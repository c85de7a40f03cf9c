-- The invariant: what stays so far and what stays of the rest make the whole.
use mathlib.Core.Path.{◌≡◌}
use mathlib.Core.Bool.{Bool}
use mathlib.Core.List.{List}
use Prim.Native.Nat.{ℕ, ◌-◌, ◌≤◌}
use lib.ListN.{length}
use Rattle.std.specs.Fn.{FnReturnsAt}
use Rattle.items.specs.Items.{without}
use Rattle.area_drop.specs.Drops.{Tests, measured_of}
use Rattle.area_drop.proofs.Dropping.{measured}
use Rattle.area_drop.proofs.measure_without.Given as goal

abbrev pub invariant-loop : goal.invariant-loop
invariant-loop g l =
    (l.at ≤ length l.area) × (l.n ≤ l.counter) × (l.size ≤ l.at)
    × ((p : List ℕ → Bool) → Tests (FnReturnsAt g.F.Fn l.goes) p → measured_of (without p) l.count l.area ≡ measured p l.area l.at (l.count - l.counter) l.n l.size)
