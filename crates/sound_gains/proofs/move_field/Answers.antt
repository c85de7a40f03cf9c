-- What is read is moved and written.
use Rattle.sound_gains.proofs.move_field.Goals as goal

pub returns : goal.returns
returns c = rw (c.adjust_gain_value.ensures, c.read_bits-g.ensures) at c.write_bits.ensures
