use Rattle.std.proofs.Common.{arith}
use Rattle.std.proofs.lemmas.Grind.{common_steps}
use Rattle.frame.proofs.Gains.{adjust-residue}
use Rattle.frame.proofs.wrapping.Goals as goal

pub returns : goal.returns
returns c = grind (arith, common_steps, adjust-residue)
