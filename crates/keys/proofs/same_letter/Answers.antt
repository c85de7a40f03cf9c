use Rattle.std.proofs.Common.{arith}
use Rattle.std.proofs.lemmas.Grind.{common_steps}
use Rattle.keys.specs.Keys.{upper}
use Rattle.keys.proofs.same_letter.Goals as goal

pub returns-then-a-b-2 : goal.returns-then-a-b-2
unfolding upper
returns-then-a-b-2 c = grind (arith, common_steps)

pub returns-else-a-b-2 : goal.returns-else-a-b-2
unfolding upper
returns-else-a-b-2 c = grind (arith, common_steps)
