-- Each answer by the tests that lead to it.
use mathlib.Core.Path.{◌≡◌, refl, sym, ap, ◌∙◌}
use Rattle.std.specs.Prelude.{Err}
use mathlib.Core.Bool.{true}
use native.Mathlib.Omega.{arith}
use mir.Syntax.{w32}
use mir.Val.{SFits}
use mir.Facts.{to_z-of_z}
use borrow.Author.Rules.{rules}
use borrow.Author.Tests.{not-true, not-false}
use Rattle.slip.specs.Slip.{is_step}
use Rattle.calls.specs.Gate.{items_of}
use Rattle.calls.specs.Calls.{Level}
use Rattle.gate.specs.Gate.{Passed}
use Rattle.gate.proofs.Gates.{gate-unfit, gate-passed, gate-place}
use Rattle.checks.specs.Checks.{next_undo_plan, next_undo_answer, level_check}
use Rattle.checks.proofs.Numbers.{numbers-yes, numbers-no}
use Rattle.checks.proofs.Checking.{level-1, level-2, level-2-right, level-7, level-8, level-next}
use Rattle.gains.specs.Moves.{level_by}
use Rattle.checks.proofs.check_level.Goals as goal
use Rattle.checks.proofs.check_level.Goals.{After-is_step, After-is_step-2, After-next_undo, Else-not-is_step, Else-not-is_step-2, In_ok-area, Start}

abbrev asked : (b : Start) → Level
asked b = level_by b.args.moves

pub returns-then-file-gt-FILE_LIMIT : goal.returns-then-file-gt-FILE_LIMIT
returns-then-file-gt-FILE_LIMIT c =
    rw (level-1 c.args.file.now c.args.gains (asked (goal.at.returns-then-file-gt-FILE_LIMIT c).Start) c.if-file-gt-FILE_LIMIT.true)

-- the left step, and the right one
left_step : (c : After-is_step) → c.is_step.result ≡ is_step c.args.moves.left.0
left_step c =
    let h : SFits w32 c.args.moves.left.0 = search rules in
    c.is_step.ensures ∙ ap is_step (to_z-of_z h)

right-step : (c : After-is_step-2) → c.is_step-2.result ≡ is_step c.args.moves.right.0
right-step c =
    let h : SFits w32 c.args.moves.right.0 = search rules in
    c.is_step-2.ensures ∙ ap is_step (to_z-of_z h)

pub returns-then-not-is_step : goal.returns-then-not-is_step
returns-then-not-is_step c =
    rw (level-2 c.args.file.now c.args.gains (asked (goal.at.returns-then-not-is_step c).Start) c.if-file-gt-FILE_LIMIT.false (sym (left_step (goal.at.returns-then-not-is_step c).After-is_step) ∙ c.if-not-is_step.true))

left-fits : (c : Else-not-is_step) → is_step c.args.moves.left.0 ≡ true
left-fits c =
    sym ((let it : c.is_step.result ≡ is_step c.args.moves.left.0 = let h : SFits w32 c.args.moves.left.0 = search rules in
    c.is_step.ensures ∙ ap is_step (to_z-of_z h) in it)) ∙ c.if-not-is_step.false

pub returns-then-not-is_step-2 : goal.returns-then-not-is_step-2
returns-then-not-is_step-2 c =
    rw (level-2-right c.args.file.now c.args.gains (asked (goal.at.returns-then-not-is_step-2 c).Start) c.if-file-gt-FILE_LIMIT.false (left-fits (goal.at.returns-then-not-is_step-2 c).Else-not-is_step) (sym (right-step (goal.at.returns-then-not-is_step-2 c).After-is_step-2) ∙ c.if-not-is_step-2.true))

right-fits : (c : Else-not-is_step-2) → is_step c.args.moves.right.0 ≡ true
right-fits c =
    sym ((let it : c.is_step-2.result ≡ is_step c.args.moves.right.0 = let h : SFits w32 c.args.moves.right.0 = search rules in
    c.is_step-2.ensures ∙ ap is_step (to_z-of_z h) in it)) ∙ c.if-not-is_step-2.false

pub returns-then-not-gains : goal.returns-then-not-gains
returns-then-not-gains c =
    rw (level-7 c.args.file.now c.args.gains (asked (goal.at.returns-then-not-gains c).Start) c.if-file-gt-FILE_LIMIT.false (left-fits (goal.at.returns-then-not-gains c).Else-not-is_step) (right-fits (goal.at.returns-then-not-gains c).Else-not-is_step-2) c.if-not-gains.true)

pub returns-in_err-area : goal.returns-in_err-area
returns-in_err-area c =
    let p = goal.at.returns-in_err-area c in
    let u = gate-unfit c.args.file.now c.gate.ensures c.in_err-area.was in
    let r : c.from_residual.result ≡ Err c.in_err-area.field-0.0 = search rules in
    rw (level-8 c.args.file.now c.args.gains (asked p.Start) c.if-file-gt-FILE_LIMIT.false (left-fits p.Else-not-is_step) (right-fits p.Else-not-is_step-2) c.if-not-gains.false u.0, r, u.1)

-- the file is fit for editing
passed : (c : In_ok-area) → Passed c.args.file.now c.in_ok-area.area
passed c = gate-passed c.args.file.now c.gate.ensures c.in_ok-area.was

-- the undo numbers, of the file's items
numbers : (c : After-next_undo) → (a : Level) → a ≡ level_by c.args.moves
    → c.next_undo.result ≡ next_undo_answer (next_undo_plan a (items_of c.args.file.now))
numbers c a e =
    let p = gate-passed c.args.file.now c.gate.ensures c.in_ok-area.was in
    rw e (c.next_undo.ensures ∙ rw p.items)

pub returns : goal.returns
returns c =
    let p = goal.at.returns c in
    let at = gate-place c.args.file.now c.gate.ensures c.in_ok-area.was in
    let n = numbers p.After-next_undo (asked p.Start) refl in
    rw (
      level-next c.args.file.now c.args.gains (asked p.Start) c.if-file-gt-FILE_LIMIT.false (left-fits p.Else-not-is_step) (right-fits p.Else-not-is_step-2) c.if-not-gains.false at.0,
      numbers-yes (next_undo_plan (asked p.Start) (items_of c.args.file.now)) (sym c.in_ok-undo.was ∙ n),
      at.1,
    )

pub returns-in_err-undo : goal.returns-in_err-undo
returns-in_err-undo c =
    let p = goal.at.returns-in_err-undo c in
    let at = gate-place c.args.file.now c.gate.ensures c.in_ok-area.was in
    let n = numbers p.After-next_undo (asked p.Start) refl in
    let r : c.from_residual-in_err-undo.result ≡ Err c.in_err-undo.field-0.0 = search rules in
    rw (
      level-next c.args.file.now c.args.gains (asked p.Start) c.if-file-gt-FILE_LIMIT.false (left-fits p.Else-not-is_step) (right-fits p.Else-not-is_step-2) c.if-not-gains.false at.0,
      numbers-no (next_undo_plan (asked p.Start) (items_of c.args.file.now)) (sym c.in_err-undo.was ∙ n),
      r,
    )

pub slice_bounds-items-count : goal.slice_bounds-items-count
slice_bounds-items-count c = let p = passed (goal.at.slice_bounds-items-count c).In_ok-area in omega (arith, p.order)

pub slice_bounds-items-start : goal.slice_bounds-items-start
slice_bounds-items-start c = let p = passed (goal.at.slice_bounds-items-start c).In_ok-area in omega (arith, p.order)

pub slice_bounds-items-end : goal.slice_bounds-items-end
slice_bounds-items-end c = let p = passed (goal.at.slice_bounds-items-end c).In_ok-area in omega (arith, p.within)

pub next_undo-requires : goal.next_undo-requires
next_undo-requires c = (passed (goal.at.next_undo-requires c).In_ok-area).good
