-- `utf8::lossy_within` meets its contract. The invariant: the whole size is what was counted and the size of what is left.
use Prim.Native.Nat.{◌≤◌, ◌+◌, ◌-◌}
use mathlib.Core.Path.{◌≡◌}
use lib.ListN.{length, drop}
use Rattle.lossy.specs.Lossy.{lossy}
use Rattle.lossy.proofs.lossy_within.Given as goal

abbrev pub invariant-loop-size : goal.invariant-loop-size
invariant-loop-size l = (l.at ≤ length l.s) × (l.size ≤ l.room) × (length (lossy l.s) ≡ l.size + length (lossy (drop l.at l.s)))

abbrev pub decreases-loop-size : goal.decreases-loop-size
decreases-loop-size l = length l.s - l.at
