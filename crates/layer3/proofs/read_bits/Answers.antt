use Rattle.layer3.specs.Bits.{read_bits}
use Rattle.layer3.proofs.read_bits.Goals as goal

pub returns : goal.returns
unfolding read_bits
returns c = rw (c.word_at.ensures.0, c.weight.ensures.0)
