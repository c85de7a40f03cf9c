-- The invariant: what is counted and measured, and what is still to be read, make up all.
use mathlib.Core.Path.{◌≡◌}
use Prim.Native.Nat.{◌+◌, ◌-◌, ◌≤◌}
use lib.ListN.{length, drop}
use Rattle.items.specs.Items.{area_bytes}
use Rattle.ape.specs.Tag.{read_items}
use Rattle.ape.proofs.measure_items.Given as goal

abbrev pub invariant-loop-read : goal.invariant-loop-read
invariant-loop-read l =
    (l.length ≤ l.room)
    × (length (read_items l.count l.items) ≡ l.read + length (read_items (l.count - l.read) (drop l.at l.items)))
    × (length (area_bytes (read_items l.count l.items)) ≡ l.length + length (area_bytes (read_items (l.count - l.read) (drop l.at l.items))))
