-- Each answer by the tests that lead to it.
use mathlib.Core.Path.{◌≡◌, sym, ap, ◌∙◌}
use Rattle.std.specs.Prelude.{Err}
use native.Mathlib.Omega.{arith}
use mir.Syntax.{w32}
use mir.Val.{SFits}
use mir.Facts.{to_z-of_z}
use borrow.Author.Rules.{rules}
use borrow.Author.Tests.{not-true, not-false}
use Rattle.values.proofs.ReadBack.{undo-small}
use Rattle.calls.specs.Gate.{items_of}
use Rattle.gate.specs.Gate.{Passed}
use Rattle.gate.proofs.Gates.{gate-unfit, gate-passed, gate-place}
use Rattle.checks.specs.Stored.{undo_of}
use Rattle.checks.proofs.Stored.{unstored, stored}
use Rattle.checks.proofs.Checking.{undo-1, undo-7, undo-8, undo-none, undo-ready}
use Rattle.checks.proofs.check_undo.Goals as goal
use Rattle.checks.proofs.check_undo.Goals.{After-stored_undo, In_ok-area}

pub returns-then-file-gt-FILE_LIMIT : goal.returns-then-file-gt-FILE_LIMIT
returns-then-file-gt-FILE_LIMIT c = let g = c.args in rw (undo-1 g.file.now g.gains c.if-file-gt-FILE_LIMIT.true)

pub returns-then-not-gains : goal.returns-then-not-gains
returns-then-not-gains c = let g = c.args in rw (undo-7 g.file.now g.gains c.if-file-gt-FILE_LIMIT.false c.if-not-gains.true)

pub returns-in_err-area : goal.returns-in_err-area
returns-in_err-area c =
    let g = c.args in
    let u = gate-unfit g.file.now c.gate.ensures c.in_err-area.was in
    let r : c.from_residual.result ≡ Err c.in_err-area.field-0.0 = search rules in
    rw (undo-8 g.file.now g.gains c.if-file-gt-FILE_LIMIT.false c.if-not-gains.false u.0, r, u.1)

-- the file is fit for editing
passed : (c : In_ok-area) → Passed c.args.file.now c.in_ok-area.area
passed c = gate-passed c.args.file.now c.gate.ensures c.in_ok-area.was

-- what it stores
says : (c : After-stored_undo) → c.stored_undo.result ≡ undo_of (items_of c.args.file.now)
says c = c.stored_undo.ensures ∙ ap undo_of (gate-passed c.args.file.now c.gate.ensures c.in_ok-area.was).items

pub returns-in_err-undo : goal.returns-in_err-undo
returns-in_err-undo c =
    let g = c.args in
    let p = goal.at.returns-in_err-undo c in
    let why = unstored _ (sym c.in_err-undo.was ∙ says p.After-stored_undo) in
    let r : c.from_residual-in_err-undo.result ≡ Err c.in_err-undo.field-0.0 = search rules in
    rw (undo-none g.file.now g.gains c.if-file-gt-FILE_LIMIT.false c.if-not-gains.false (passed p.In_ok-area).passes why, r)

pub returns : goal.returns
returns c =
    let g = c.args in
    let p = goal.at.returns c in
    let t = stored _ (sym c.in_ok-undo.was ∙ says p.After-stored_undo) in
    let at = gate-place g.file.now c.gate.ensures c.in_ok-area.was in
    rw (undo-ready g.file.now g.gains c.if-file-gt-FILE_LIMIT.false c.if-not-gains.false at.0 t.once t.text t.is, ← at.1, ← t.said-is)

pub slice_bounds-stored_undo-count : goal.slice_bounds-stored_undo-count
slice_bounds-stored_undo-count c = let p = passed (goal.at.slice_bounds-stored_undo-count c).In_ok-area in omega (arith, p.order)

pub slice_bounds-stored_undo-start : goal.slice_bounds-stored_undo-start
slice_bounds-stored_undo-start c = let p = passed (goal.at.slice_bounds-stored_undo-start c).In_ok-area in omega (arith, p.order)

pub slice_bounds-stored_undo-end : goal.slice_bounds-stored_undo-end
slice_bounds-stored_undo-end c = let p = passed (goal.at.slice_bounds-stored_undo-end c).In_ok-area in omega (arith, p.within)

pub stored_undo-requires : goal.stored_undo-requires
stored_undo-requires c = (passed (goal.at.stored_undo-requires c).In_ok-area).good
