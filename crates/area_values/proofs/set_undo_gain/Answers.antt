use mathlib.Core.Path.{◌∙◌}
use mir.Facts.{to_z-of_z}
use Rattle.keys.specs.Keys.{undo_key}
use Rattle.decimal.proofs.Texts.{text-part}
use Rattle.area_values.proofs.set_undo_gain.Goals as goal

pub returns : goal.returns
unfolding undo_key
returns c =
    let e = rw (to_z-of_z c.ranges.left, to_z-of_z c.ranges.right) at c.format_undo_value-text.ensures in
    rw (c.as_slice.ensures ∙ text-part _ _ e) at c.set.ensures
