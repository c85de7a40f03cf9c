use Rattle.std.proofs.Common.{arith}
use Rattle.std.proofs.lemmas.Grind.{common_steps}
use Rattle.keys.specs.Keys.{which_of, is_reserved}
use Rattle.keys.proofs.is_reserved.Goals as goal

pub returns-then-same_key-3 : goal.returns-then-same_key-3
unfolding is_reserved which_of
returns-then-same_key-3 c = grind (arith, common_steps)

pub returns-else-same_key-3 : goal.returns-else-same_key-3
unfolding is_reserved which_of
returns-else-same_key-3 c = grind (arith, common_steps)
