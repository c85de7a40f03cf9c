use mathlib.Core.Path.{◌≡◌, sym, ap, ◌∙◌}
use mathlib.Core.Bool.{true}
use mir.Syntax.{w32}
use mir.Val.{SFits}
use mir.Facts.{to_z-of_z}
use borrow.Author.Rules.{rules}
use Rattle.calls.specs.Calls.{is_undo_number}
use Rattle.checks.proofs.Numbers.{number-left, number-right, number-both}
use Rattle.checks.proofs.next_numbers.Goals as goal
use Rattle.checks.proofs.next_numbers.Goals.{After-is_undo_number, After-is_undo_number-2}

left : (c : After-is_undo_number) → c.is_undo_number.result ≡ is_undo_number c.accumulate_undo-u.result.left
left c =
    let h : SFits w32 c.accumulate_undo-u.result.left = search rules in
    c.is_undo_number.ensures ∙ ap is_undo_number (to_z-of_z h)

right : (c : After-is_undo_number-2) → c.is_undo_number-2.result ≡ is_undo_number c.accumulate_undo-u.result.right
right c =
    let h : SFits w32 c.accumulate_undo-u.result.right = search rules in
    c.is_undo_number-2.ensures ∙ ap is_undo_number (to_z-of_z h)

pub returns-then-not-is_undo_number : goal.returns-then-not-is_undo_number
returns-then-not-is_undo_number c =
    let g = c.args in
    rw (number-left g.text.now g.left_steps.0 g.right_steps.0 _ c.accumulate_undo-u.ensures (sym (left (goal.at.returns-then-not-is_undo_number c).After-is_undo_number) ∙ c.if-not-is_undo_number.true))

pub returns-then-not-is_undo_number-2 : goal.returns-then-not-is_undo_number-2
returns-then-not-is_undo_number-2 c =
    let g = c.args in
    let p = goal.at.returns-then-not-is_undo_number-2 c in
    rw (number-right g.text.now g.left_steps.0 g.right_steps.0 _ c.accumulate_undo-u.ensures (sym (left p.After-is_undo_number) ∙ c.if-not-is_undo_number.false) (sym (right p.After-is_undo_number-2) ∙ c.if-not-is_undo_number-2.true))

pub returns : goal.returns
returns c =
    let g = c.args in
    let p = goal.at.returns c in
    rw (number-both g.text.now g.left_steps.0 g.right_steps.0 _ c.accumulate_undo-u.ensures (sym (left p.After-is_undo_number) ∙ c.if-not-is_undo_number.false) (sym (right p.After-is_undo_number-2) ∙ c.if-not-is_undo_number-2.false))
