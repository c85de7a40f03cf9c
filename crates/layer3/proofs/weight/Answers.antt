use Rattle.layer3.proofs.Bits.{weight_is, weight-some}
use Rattle.layer3.proofs.weight.Goals as goal

pub returns : goal.returns
returns c = weight-some (weight_is c.args.bit)
