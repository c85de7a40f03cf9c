use native.Mathlib.Omega.{arith}
use Rattle.utf8.proofs.Stretch.{none, front}
use Rattle.utf8.proofs.front_end.Goals as goal

pub returns-then-s-lt16 : goal.returns-then-s-lt16
returns-then-s-lt16 c = front (omega arith) c.front_by_eights.ensures

pub returns-then-s-ge-LONG : goal.returns-then-s-ge-LONG
returns-then-s-ge-LONG c = none _ _ c.requires

pub returns-else-s-lt16 : goal.returns-else-s-lt16
returns-else-s-lt16 c = front (omega arith) c.front_by_sixteens.ensures
