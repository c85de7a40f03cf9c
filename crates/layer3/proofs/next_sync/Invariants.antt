-- The invariant: the walk finds from i what it finds from the start. No frame begins where no header may.
use Rattle.std.proofs.Common.{◌≡◌, ◌≤◌, ◌-◌, length}
use Rattle.layer3.specs.Walk.{walk}
use Rattle.layer3.proofs.next_sync.Given as goal

abbrev pub invariant-loop-i : goal.invariant-loop-i
invariant-loop-i l = (l.at ≤ l.i) × (walk (length l.s) l.s l.i ≡ walk (length l.s) l.s l.at)

abbrev pub decreases-loop-i : goal.decreases-loop-i
decreases-loop-i l = length l.s - l.i
