use native.Mathlib.Omega.{arith}
use Rattle.peaks.proofs.Wides.{over-capped}
use Rattle.peaks.proofs.capped.Goals as goal

pub returns-then-q-gt28 : goal.returns-then-q-gt28
returns-then-q-gt28 c = (over-capped c.args.x c.args.q c.if-x-eq0.false c.if-q-gt28.true, omega arith)
