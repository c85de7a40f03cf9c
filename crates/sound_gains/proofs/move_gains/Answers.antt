-- The table that is lent is that of the frame lengths.
use Rattle.layer3.proofs.Sizes.{size-table}
use Rattle.sound_gains.proofs.move_gains.Goals as goal

pub move_all-requires : goal.move_all-requires
move_all-requires c = (size-table, c.requires.0, c.requires.1)
