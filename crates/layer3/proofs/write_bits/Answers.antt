use Rattle.std.proofs.Common.{arith}
use Rattle.layer3.specs.Bits.{with_bits, write_bits}
use Rattle.layer3.proofs.Bits.{weight_is, bits_small}
use Rattle.layer3.proofs.write_bits.Goals as goal

pub overflow_cast-s : goal.overflow_cast-s
unfolding with_bits
overflow_cast-s c =
    let w = c.word_at-w.ensures in
    rw (w.0, c.weight-k.ensures.0, c.from.ensures) (omega (arith, bits_small (weight_is c.args.bit) _ c.args.v (rw w.0 at w.1) (omega arith)))

pub returns : goal.returns
unfolding write_bits with_bits
returns c = rw (c.word_at-w.ensures.0, c.weight-k.ensures.0, c.from.ensures)
