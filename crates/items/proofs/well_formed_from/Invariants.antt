-- The invariant: what stands from at is well formed where what is left of it is.
use mathlib.Core.Path.{◌≡◌}
use Prim.Native.Nat.{◌-◌, ◌≤◌}
use lib.ListN.{length, drop}
use Rattle.lists.specs.Choice.{is_some}
use Rattle.items.specs.Items.{parse}
use Rattle.items.proofs.well_formed_from.Given as goal

abbrev pub invariant-loop : goal.invariant-loop
invariant-loop l = (l.at ≤ length l.area) × (is_some (parse l.count (drop l.fn.at l.area)) ≡ is_some (parse (l.count - l.counter) (drop l.at l.area)))
