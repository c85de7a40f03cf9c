use Rattle.std.proofs.Common.{arith}
use Rattle.std.proofs.lemmas.Grind.{common_steps}
use Rattle.tally.specs.Tally.{count}
use Rattle.tally.proofs.Counts.{count-gather}
use Rattle.tally.proofs.count_block.Goals as goal

pub loop-k-init : goal.loop-k-init
unfolding count
loop-k-init c = grind (arith, common_steps)

pub loop-k-preserved : goal.loop-k-preserved
loop-k-preserved c = grind (arith, common_steps, count-gather)
