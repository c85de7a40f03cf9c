-- The table that is lent is that of the frame lengths.
use Rattle.layer3.proofs.Sizes.{size-table}
use Rattle.sound_gains.proofs.scan_gains.Goals as goal

pub scan_all-requires : goal.scan_all-requires
scan_all-requires c = (size-table, c.requires)
