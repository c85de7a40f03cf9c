-- A refusal of the check, or of the new file, is the call's; else the file is written, and then the gains move.
use mathlib.Core.Path.{◌≡◌, refl, sym, ap, ◌∙◌}
use mathlib.Core.List.{List}
use Prim.Native.Nat.{ℕ}
use Rattle.std.specs.Prelude.{Result, Ok, Err}
use mir.Syntax.{w32}
use mir.Val.{SFits}
use mir.Facts.{to_z-of_z}
use borrow.Author.Rules.{rules}
use lib.ListN.{length}
use lib.Dec.{ltb}
use Rattle.lists.specs.Write.{over}
use Rattle.frame.specs.Gain.{mode_of}
use Rattle.values.proofs.ReadBack.{undo-small}
use Rattle.calls.specs.Calls.{others}
use Rattle.checks.specs.Checks.{undo_check}
use Rattle.checks.specs.declared.StoredUndo.{StoredUndo}
use Rattle.checks.proofs.Whole.{any-is, Undoes, undo-ready, undo-not, undo-refused}
use Rattle.undo.proofs.Undoing.{undo-5, undo-done, done-fits, refused-room, moved-alike}
use Rattle.undo.proofs.undo.Goals as goal
use Rattle.undo.proofs.undo.Goals.{In_ok-ready}

-- the check is ready
ready : (c : In_ok-ready) → Undoes c.args.file.now (ltb 0 (length c.args.left.now)) c.in_ok-ready.ready
ready c = undo-ready c.args.file.now (ltb 0 (length c.args.left.now)) c.in_ok-ready.ensures

pub returns-in_err-ready : goal.returns-in_err-ready
returns-in_err-ready c =
    let g = c.args in
    let r : c.from_residual.result ≡ Err c.in_err-ready.field-0.0 = search rules in
    rw (undo-refused g.file.now g.left.now g.right.now (length g.out.now) (ap (undo_check g.file.now) (sym (any-is g.left.now)) ∙ undo-not g.file.now (ltb 0 (length g.left.now)) c.in_err-ready.ensures), r) (refl, refl, refl, refl)

pub drop_keys-requires : goal.drop_keys-requires
drop_keys-requires c = let r = ready (goal.at.drop_keys-requires c).In_ok-ready in (r.passed, r.short)

pub returns-in_err-length : goal.returns-in_err-length
unfolding others
returns-in_err-length c =
    let g = c.args in
    let t = ready (goal.at.returns-in_err-length c).In_ok-ready in
    let d = c.drop_keys.ensures in
    let (b, why, nothing) = refused-room t.passed (length g.out.now) (sym c.in_err-length.was ∙ d.0) in
    let r : c.from_residual-in_err-length.result ≡ Err c.in_err-length.field-0.0 = search rules in
    rw (undo-5 g.file.now g.left.now g.right.now (length g.out.now) (ap (undo_check g.file.now) (sym (any-is g.left.now)) ∙ t.check) b, r, why)
    (refl, d.1 ∙ ap (λ (w : List ℕ). over w g.out.now) nothing, refl, refl)

pub returns : goal.returns
unfolding others
returns c =
    let g = c.args in
    let t = ready (goal.at.returns c).In_ok-ready in
    let d = c.drop_keys.ensures in
    let (b, n, by) = done-fits t.passed (length g.out.now) (sym c.in_ok-length.was ∙ d.0) in
    let l = ap (λ (u : StoredUndo). u.left) t.said-is in
    let r = ap (λ (u : StoredUndo). u.right) t.said-is in
    let m = c.from_wrap-mode.ensures ∙ ap (λ (u : StoredUndo). mode_of u.wrap) t.said-is in
    let hl : SFits w32 c.in_ok-ready.ready.undo.left = rw l (record { sfits = (undo-small t.text).0 }) in
    let hr : SFits w32 c.in_ok-ready.ready.undo.right = rw r (record { sfits = (undo-small t.text).1 }) in
    rw (undo-done g.file.now g.left.now g.right.now (length g.out.now) (ap (undo_check g.file.now) (sym (any-is g.left.now)) ∙ t.check) b) (
      rw n refl,
      d.1 ∙ ap (λ (w : List ℕ). over w g.out.now) by,
      moved-alike _ _ _ _ g.left.now c.adjust_gains.ensures m (to_z-of_z hl ∙ l),
      moved-alike _ _ _ _ g.right.now c.adjust_gains-2.ensures m (to_z-of_z hr ∙ r),
    )

pub shape_of-left : goal.shape_of-left
shape_of-left c = c.adjust_gains.auto.gains

pub shape_of-right : goal.shape_of-right
shape_of-right c = c.adjust_gains-2.auto.gains

pub shape_of-out : goal.shape_of-out
shape_of-out c = c.drop_keys.auto.out
