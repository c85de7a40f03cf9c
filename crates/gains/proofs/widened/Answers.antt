use Rattle.std.proofs.Common.{arith}
use Rattle.std.proofs.lemmas.Grind.{common_steps}
use Rattle.gains.proofs.Ranges.{least_more, greatest-more, least-end, greatest-end}
use Rattle.gains.proofs.widened.Goals as goal

pub loop-gain-preserved : goal.loop-gain-preserved
loop-gain-preserved c = grind (arith, common_steps, least_more, greatest-more)

pub returns : goal.returns
returns c = grind (arith, common_steps, least-end, greatest-end)
