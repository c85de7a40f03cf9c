use native.Mathlib.Omega.{arith}
use Rattle.utf8.proofs.Stretch.{plain}
use Rattle.utf8.proofs.far_end.Goals as goal

pub loop-at-preserved : goal.loop-at-preserved
loop-at-preserved c = plain _ c.loop-at.invariant (omega arith) (omega arith) (omega arith)
