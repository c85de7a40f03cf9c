-- The steps taken apart are put together again.
use Rattle.std.proofs.Common.{arith}
use Rattle.std.proofs.lemmas.Grind.{common_steps}
use Rattle.integers.proofs.Sign.{whole_apart}
use Rattle.frame.proofs.adjust_gain_value.Goals as goal

pub returns-in-Saturating : goal.returns-in-Saturating
returns-in-Saturating c = grind (arith, common_steps, whole_apart c.args.steps.0)

pub returns-in-Wrapping : goal.returns-in-Wrapping
returns-in-Wrapping c = grind (arith, common_steps, whole_apart c.args.steps.0)
