-- Each turn goes on behind the answer that it replays.
use Prim.Native.Nat.{◌-◌}
use lib.ListN.{length}
use Rattle.vectors.proofs.replay_all.Given as goal

abbrev pub decreases-loop-r : goal.decreases-loop-r
decreases-loop-r g l = length l.text - l.r.at
