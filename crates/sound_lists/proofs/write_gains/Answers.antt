-- The table that is lent is that of the frame lengths.
use Rattle.layer3.proofs.Sizes.{size-table}
use Rattle.sound_lists.proofs.write_gains.Goals as goal

pub write_all-requires : goal.write_all-requires
write_all-requires c = let p = c.requires in (size-table, p.0, p.1)
