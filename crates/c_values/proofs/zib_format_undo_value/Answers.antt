use mathlib.Core.Path.{◌∙◌}
use mir.Facts.{to_z-of_z}
use Rattle.values.specs.Undo.{format_undo}
use Rattle.decimal.proofs.Texts.{text-part}
use Rattle.c_values.proofs.zib_format_undo_value.Goals as goal

pub returns : goal.returns
returns c =
    let g = c.args in
    let e = rw (to_z-of_z c.ranges.left, to_z-of_z c.ranges.right) at c.format_undo_value-text.ensures in
    rw (c.as_slice.ensures ∙ text-part c.format_undo_value-text.result (format_undo g.left g.right g.wrap) e) at c.put_text.ensures
