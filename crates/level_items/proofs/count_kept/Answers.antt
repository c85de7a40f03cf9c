-- Which way by whether the steps are equal.
use mathlib.Core.Path.{sym, ap, ◌∙◌}
use mir.Syntax.{w32}
use mir.Val.{SFits, to_z, of_z}
use mir.Facts.{to_z-of_z}
use borrow.Author.Rules.{rules}
use Rattle.items.specs.Items.{items_in}
use Rattle.level_items.proofs.Moved.{kept-equal, kept-other}
use Rattle.level_items.proofs.count_kept.Goals as goal

pub returns-then-left-right : goal.returns-then-left-right
returns-then-left-right c =
    let g = c.args in
    let hl : SFits w32 g.left.0 = search rules in
    let hr : SFits w32 g.right.0 = search rules in
    c.kept_by.ensures ∙ sym (kept-equal g.left.0 g.right.0 (items_in g.count g.area.now) (sym (to_z-of_z hl) ∙ ap (to_z w32) c.if-left-right.true ∙ to_z-of_z hr))

pub returns : goal.returns
returns c =
    let g = c.args in
    sym (kept-other g.left.0 g.right.0 (items_in g.count g.area.now) (λ e. c.if-left-right.false (ap (of_z w32) e)))
