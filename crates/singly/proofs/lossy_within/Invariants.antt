-- The invariant: the whole size is what was counted and the size of what is left.
use Prim.Native.Nat.{◌≤◌, ◌+◌, ◌-◌}
use mathlib.Core.Path.{◌≡◌}
use lib.ListN.{length, drop}
use Rattle.lossy.specs.Lossy.{lossy}
use Rattle.singly.proofs.lossy_within.Given as goal

abbrev pub invariant-loop-n : goal.invariant-loop-n
invariant-loop-n l = (l.at ≤ length l.s) × (l.size ≤ l.room) × (length (lossy l.s) ≡ l.size + length (lossy (drop l.at l.s)))

abbrev pub decreases-loop-n : goal.decreases-loop-n
decreases-loop-n l = length l.s - l.at
