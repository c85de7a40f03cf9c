use Rattle.std.specs.Prelude.{Err}
use mathlib.Core.Path.{◌≡◌, sym, ◌∙◌}
use mathlib.Core.Bool.{true}
use mathlib.Core.List.{[]}
use borrow.Author.Rules.{rules}
use borrow.Author.Tests.{not-true, not-false}
use Rattle.keys.specs.Keys.{is_key}
use Rattle.items.specs.Items.{remove_item}
use Rattle.calls.specs.Gate.{items_of}
use Rattle.gate.specs.Gate.{Passed}
use Rattle.gate.proofs.Gates.{gate-unfit, gate-passed}
use Rattle.edit.proofs.Plans.{remove-1, remove-3, remove-8, remove-rest}
use Rattle.calls.specs.Lengths.{unlimited, remove_length}
use Rattle.lengths.proofs.Measuring.{tag_is}
use Rattle.lengths.proofs.remove_length.Goals as goal
use Rattle.lengths.proofs.remove_length.Goals.{Else-not-is_key, In_ok-place}

pub returns-then-file-gt-FILE_LIMIT : goal.returns-then-file-gt-FILE_LIMIT
unfolding remove_length
returns-then-file-gt-FILE_LIMIT c = let g = c.args in rw (remove-1 g.file.now g.key.now [] unlimited c.if-file-gt-FILE_LIMIT.true)

pub returns-then-not-is_key : goal.returns-then-not-is_key
unfolding remove_length
returns-then-not-is_key c =
    let g = c.args in
    rw (remove-3 g.file.now g.key.now [] unlimited c.if-file-gt-FILE_LIMIT.false (sym c.is_key.ensures ∙ c.if-not-is_key.true))

-- the key is good
key : (c : Else-not-is_key) → is_key c.args.key.now ≡ true
key c = sym c.is_key.ensures ∙ c.if-not-is_key.false

pub returns-in_err-place : goal.returns-in_err-place
unfolding remove_length
returns-in_err-place c =
    let g = c.args in
    let u = gate-unfit g.file.now c.gate.ensures c.in_err-place.was in
    let r : c.from_residual.result ≡ Err c.in_err-place.field-0.0 = search rules in
    rw (remove-8 g.file.now g.key.now [] unlimited c.if-file-gt-FILE_LIMIT.false (key (goal.at.returns-in_err-place c).Else-not-is_key) u.0, r, u.1)

-- and the file is fit for editing
passed : (c : In_ok-place) → Passed c.args.file.now c.in_ok-place.place
passed c = gate-passed c.args.file.now c.gate.ensures c.in_ok-place.was

pub drop_length-requires : goal.drop_length-requires
drop_length-requires c = (passed (goal.at.drop_length-requires c).In_ok-place, c.if-file-gt-FILE_LIMIT.false)

pub returns : goal.returns
unfolding remove_length
returns c =
    let g = c.args in
    rw (remove-rest g.file.now g.key.now [] unlimited c.if-file-gt-FILE_LIMIT.false (key (goal.at.returns c).Else-not-is_key) (passed (goal.at.returns c).In_ok-place).passes, ← tag_is g.file.now (remove_item g.key.now (items_of g.file.now))) c.drop_length.ensures
