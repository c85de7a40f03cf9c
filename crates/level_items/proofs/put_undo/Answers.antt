use borrow.Author.Rules.{rules}
use mathlib.Core.Path.{◌≡◌, ◌∙◌}
use native.Mathlib.Omega.{arith}
use mir.Syntax.{w32}
use mir.Val.{SFits}
use mir.Facts.{to_z-of_z}
use Rattle.keys.specs.Keys.{undo_key}
use Rattle.decimal.specs.Writing.{text_of}
use Rattle.values.specs.Undo.{format_undo}
use Rattle.values.proofs.ReadBack.{length-undo}
use Rattle.items.specs.Items.{items_in}
use Rattle.calls.specs.Calls.{wraps}
use Rattle.level_items.proofs.Texts.{text-fits, text-wrote}
use Rattle.level_items.proofs.put_undo.Goals as goal
use Rattle.level_items.proofs.put_undo.Goals.{After-format_undo_value-text}

-- the text that is set
text : (c : After-format_undo_value-text) → let g = c.args in c.format_undo_value-text.result ≡ text_of (format_undo g.undo.left g.undo.right (wraps g.mode))
text c =
    let g = c.args in
    let hl : SFits w32 g.undo.left = search rules in
    let hr : SFits w32 g.undo.right = search rules in
    c.format_undo_value-text.ensures ∙ rw (to_z-of_z hl, to_z-of_z hr, c.wraps.ensures)

pub put_set-requires : goal.put_set-requires
unfolding undo_key
put_set-requires c =
    let g = c.args in
    let f = text-fits c.format_undo_value-text.result (format_undo g.undo.left g.undo.right (wraps g.mode)) (text (goal.at.put_set-requires c).After-format_undo_value-text) c.as_slice.result.now c.as_slice.ensures undo_key (items_in g.count g.area.now) g.out.now (omega (arith, length-undo g.undo.left g.undo.right (wraps g.mode))) c.requires.1 in
    (c.requires.0, f.0, f.1)

pub returns : goal.returns
unfolding undo_key
returns c =
    let g = c.args in
    text-wrote c.format_undo_value-text.result (format_undo g.undo.left g.undo.right (wraps g.mode)) (text (goal.at.returns c).After-format_undo_value-text) c.as_slice.result.now c.as_slice.ensures undo_key (items_in g.count g.area.now) g.out.now _ _ c.put_set.ensures
