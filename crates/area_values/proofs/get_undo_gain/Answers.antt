use mathlib.Core.Path.{sym, ap, ◌∙◌}
use native.Mathlib.Omega.{arith}
use mir.Facts.{to_z-of_z}
use mir.Syntax.{w32}
use mir.Val.{SFits}
use borrow.Author.Rules.{rules}
use Rattle.std.specs.Prelude.{Some, Ok}
use Rattle.keys.specs.Keys.{undo_key}
use Rattle.values.specs.Undo.{parse_undo}
use Rattle.area_values.proofs.Stored.{gain_from, undo-is}
use Rattle.area_values.proofs.get_undo_gain.Goals as goal

pub returns-in_err-f : goal.returns-in_err-f
unfolding undo_key
returns-in_err-f c =
    let s = c.args.area.now in
    let e = ap (gain_from s) c.in_err-f.ensures ∙ undo-is s c.args.count (λ i. omega (arith, c.type_inv.area i)) in
    search rules

pub returns-in_default : goal.returns-in_default
unfolding undo_key
returns-in_default c =
    let s = c.args.area.now in
    ap (λ o. gain_from s (Ok o)) (sym c.in_default.is) ∙ ap (gain_from s) c.in_ok-f.ensures ∙ undo-is s c.args.count (λ i. omega (arith, c.type_inv.area i))

pub returns : goal.returns
unfolding undo_key
returns c =
    let s = c.args.area.now in
    let fits : SFits w32 c.parse_undo_values.result.left = search rules in
    let e = c.parse_undo_values.ensures ∙ ap parse_undo c.part-text.ensures.0 in
    ap (λ z. Ok (Some z)) (to_z-of_z fits ∙ ap (λ u. u.left) e)
    ∙ ap (λ o. gain_from s (Ok o)) (sym c.in-Some.is)
    ∙ ap (gain_from s) c.in_ok-f.ensures
    ∙ undo-is s c.args.count (λ i. omega (arith, c.type_inv.area i))
