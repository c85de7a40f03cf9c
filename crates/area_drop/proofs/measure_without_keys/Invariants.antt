-- The invariant: what stays so far and what stays of the rest make the whole.
use mathlib.Core.Path.{◌≡◌}
use Prim.Native.Nat.{◌-◌, ◌≤◌}
use lib.ListN.{length}
use Rattle.items.specs.Items.{without}
use Rattle.area_drop.specs.Drops.{measured_of}
use Rattle.area_drop.proofs.Dropping.{measured}
use Rattle.area_drop.proofs.measure_without_keys.Given as goal

abbrev pub invariant-loop : goal.invariant-loop
invariant-loop g l =
    (l.at ≤ length l.area) × (l.n ≤ l.counter) × (l.size ≤ l.at)
    × (let p = g.T.KeyTest.test l.goes in measured_of (without p) l.count l.area ≡ measured p l.area l.at (l.count - l.counter) l.n l.size)
