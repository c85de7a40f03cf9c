use Rattle.std.specs.Prelude.{Err}
use mathlib.Core.Path.{◌≡◌, sym, ◌∙◌}
use mathlib.Core.Bool.{true}
use borrow.Author.Rules.{rules}
use borrow.Author.Tests.{not-true, not-false}
use Rattle.utf8.specs.Utf8.{valid}
use Rattle.keys.specs.Keys.{is_key}
use Rattle.items.specs.Items.{set_item}
use Rattle.calls.specs.Gate.{items_of}
use Rattle.gate.specs.Gate.{Passed}
use Rattle.gate.proofs.Gates.{gate-unfit, gate-passed}
use Rattle.edit.proofs.Plans.{set-1, set-3, set-4, set-8, set-6, set_rest}
use Rattle.calls.specs.Lengths.{unlimited, set_length}
use Rattle.lengths.proofs.Measuring.{tag_is}
use Rattle.lengths.proofs.set_length.Goals as goal
use Rattle.lengths.proofs.set_length.Goals.{Else-not-is_key, Else-not-is_utf8, In_ok-place}

pub returns-then-file-gt-FILE_LIMIT : goal.returns-then-file-gt-FILE_LIMIT
unfolding set_length
returns-then-file-gt-FILE_LIMIT c = let g = c.args in rw (set-1 g.file.now g.key.now g.value.now unlimited c.if-file-gt-FILE_LIMIT.true)

pub returns-then-not-is_key : goal.returns-then-not-is_key
unfolding set_length
returns-then-not-is_key c =
    let g = c.args in
    rw (set-3 g.file.now g.key.now g.value.now unlimited c.if-file-gt-FILE_LIMIT.false (sym c.is_key.ensures ∙ c.if-not-is_key.true))

-- the key is good
key : (c : Else-not-is_key) → is_key c.args.key.now ≡ true
key c = sym c.is_key.ensures ∙ c.if-not-is_key.false

pub returns-then-not-is_utf8 : goal.returns-then-not-is_utf8
unfolding set_length
returns-then-not-is_utf8 c =
    let g = c.args in
    rw (set-4 g.file.now g.key.now g.value.now unlimited c.if-file-gt-FILE_LIMIT.false (key (goal.at.returns-then-not-is_utf8 c).Else-not-is_key) (sym c.is_utf8.ensures ∙ c.if-not-is_utf8.true))

-- and so is the value
text : (c : Else-not-is_utf8) → valid c.args.value.now ≡ true
text c = sym c.is_utf8.ensures ∙ c.if-not-is_utf8.false

pub returns-in_err-place : goal.returns-in_err-place
unfolding set_length
returns-in_err-place c =
    let g = c.args in
    let u = gate-unfit g.file.now c.gate.ensures c.in_err-place.was in
    let r : c.from_residual.result ≡ Err c.in_err-place.field-0.0 = search rules in
    rw (set-8 g.file.now g.key.now g.value.now unlimited c.if-file-gt-FILE_LIMIT.false (key (goal.at.returns-in_err-place c).Else-not-is_key) (text (goal.at.returns-in_err-place c).Else-not-is_utf8) u.0, r, u.1)

-- and the file is fit for editing
passed : (c : In_ok-place) → Passed c.args.file.now c.in_ok-place.place
passed c = gate-passed c.args.file.now c.gate.ensures c.in_ok-place.was

pub returns-then-value-gt-AREA_LIMIT : goal.returns-then-value-gt-AREA_LIMIT
unfolding set_length
returns-then-value-gt-AREA_LIMIT c =
    let g = c.args in
    rw (set-6 g.file.now g.key.now g.value.now unlimited c.if-file-gt-FILE_LIMIT.false (key (goal.at.returns-then-value-gt-AREA_LIMIT c).Else-not-is_key) (text (goal.at.returns-then-value-gt-AREA_LIMIT c).Else-not-is_utf8) (passed (goal.at.returns-then-value-gt-AREA_LIMIT c).In_ok-place).passes c.if-value-gt-AREA_LIMIT.true)

pub item_length-requires : goal.item_length-requires
item_length-requires c =
    (passed (goal.at.item_length-requires c).In_ok-place, c.if-file-gt-FILE_LIMIT.false, key (goal.at.item_length-requires c).Else-not-is_key, c.if-value-gt-AREA_LIMIT.false)

pub returns : goal.returns
unfolding set_length
returns c =
    let g = c.args in
    rw (set_rest g.file.now g.key.now g.value.now unlimited c.if-file-gt-FILE_LIMIT.false (key (goal.at.returns c).Else-not-is_key) (text (goal.at.returns c).Else-not-is_utf8) (passed (goal.at.returns c).In_ok-place).passes, ← tag_is g.file.now (set_item g.key.now g.value.now (items_of g.file.now)))
    c.item_length.ensures
