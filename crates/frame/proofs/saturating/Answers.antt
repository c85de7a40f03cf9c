use Rattle.std.proofs.Common.{arith}
use Rattle.std.proofs.lemmas.Grind.{common_steps}
use Rattle.frame.proofs.Gains.{adjust-zero, adjust-up, adjust-down}
use Rattle.frame.proofs.saturating.Goals as goal

pub returns-then-steps : goal.returns-then-steps
returns-then-steps c = grind (arith, common_steps, adjust-down)

pub returns-then-current-eq0 : goal.returns-then-current-eq0
returns-then-current-eq0 c = grind (arith, common_steps, adjust-zero)

pub returns-else-current-eq0 : goal.returns-else-current-eq0
returns-else-current-eq0 c = grind (arith, common_steps, adjust-up)
