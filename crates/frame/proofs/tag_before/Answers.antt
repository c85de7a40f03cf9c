use Rattle.std.proofs.Common.{arith}
use Rattle.std.proofs.lemmas.Grind.{common_steps}
use Rattle.frame.specs.Tail.{tag_before}
use Rattle.frame.proofs.tag_before.Goals as goal

pub returns-then-end-lt32 : goal.returns-then-end-lt32
unfolding tag_before
returns-then-end-lt32 c = grind (arith, common_steps)

pub returns : goal.returns
unfolding tag_before
returns c = grind (arith, common_steps)
