-- The invariant: what is counted and what the items that are left hold.
use mathlib.Core.Path.{◌≡◌}
use Prim.Native.Nat.{◌+◌, ◌-◌, ◌≤◌}
use lib.ListN.{drop}
use Rattle.items.specs.Items.{items_in}
use Rattle.items.proofs.Loops.{Left}
use Rattle.calls.specs.Calls.{count_items, keeps_peak}
use Rattle.level_items.proofs.kept_by.Given as goal

abbrev pub invariant-loop : goal.invariant-loop
invariant-loop l =
    Left l.area l.at (l.count - l.counter) × (l.n + (l.count - l.counter) ≤ l.count) × (count_items (keeps_peak l.steps.0) (items_in l.count l.area) ≡ l.n + count_items (keeps_peak l.steps.0) (items_in (l.count - l.counter) (drop l.at l.area)))
