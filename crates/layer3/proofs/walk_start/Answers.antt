use Rattle.std.proofs.Common.{arith}
use Rattle.std.proofs.lemmas.Grind.{common_steps}
use Rattle.layer3.specs.Walk.{walk_start}
use Rattle.layer3.proofs.walk_start.Goals as goal

pub returns-then-starts_with : goal.returns-then-starts_with
unfolding walk_start
returns-then-starts_with c = grind (arith, common_steps)

pub returns-else-starts_with : goal.returns-else-starts_with
unfolding walk_start
returns-else-starts_with c = grind (arith, common_steps)
