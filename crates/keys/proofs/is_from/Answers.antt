use Rattle.std.proofs.Common.{arith}
use Rattle.std.proofs.lemmas.Grind.{common_steps}
use Rattle.keys.specs.Keys.{is_from}
use Rattle.keys.proofs.is_from.Goals as goal

pub returns : goal.returns
unfolding is_from
returns c = grind (arith, common_steps)
