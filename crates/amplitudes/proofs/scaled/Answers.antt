use Rattle.amplitudes.proofs.Products.{not-nan, constant-at}
use Rattle.amplitudes.proofs.scaled.Goals as goal

pub returns : goal.returns
returns c = rw (constant-at c.args.k c.requires.0)

pub float_from_bits-result : goal.float_from_bits-result
float_from_bits-result c = not-nan c.args.field c.requires.1
