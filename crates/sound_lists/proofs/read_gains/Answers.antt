-- The table that is lent is that of the frame lengths.
use mathlib.Core.Path.{◌∙◌}
use Rattle.layer3.proofs.Sizes.{size-table}
use Rattle.sound_lists.proofs.Gets.{filled-over}
use Rattle.sound_lists.proofs.read_gains.Goals as goal

pub returns : goal.returns
returns c =
    let w = c.read_all.ensures in
    ((w.0.0, w.0.1 ∙ filled-over _ _), (w.1.0, w.1.1 ∙ filled-over _ _))

pub read_all-requires : goal.read_all-requires
read_all-requires c = (size-table, c.requires)
