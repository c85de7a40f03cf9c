use Rattle.std.specs.Prelude.{Err}
use mathlib.Core.Path.{◌≡◌, refl, sym, ◌∙◌}
use mathlib.Core.List.{[]}
use mathlib.Core.Bool.{true}
use borrow.Author.Rules.{rules}
use lib.ListN.{length}
use Rattle.keys.specs.Keys.{is_key}
use Rattle.gate.specs.Gate.{Passed}
use Rattle.gate.proofs.Gates.{gate-unfit, gate-passed}
use Rattle.edit.proofs.Plans.{remove-1, remove-3, remove-8, remove-rest}
use Rattle.edit.proofs.remove_ape_item.Goals as goal
use Rattle.edit.proofs.remove_ape_item.Goals.{Else-not-is_key, In_ok-place}

pub returns-then-file-gt-FILE_LIMIT : goal.returns-then-file-gt-FILE_LIMIT
returns-then-file-gt-FILE_LIMIT c = let g = c.args in rw (remove-1 g.file.now g.key.now [] (length g.out.now) c.if-file-gt-FILE_LIMIT.true) (refl, refl)

pub returns-then-not-is_key : goal.returns-then-not-is_key
returns-then-not-is_key c =
    let g = c.args in
    rw (remove-3 g.file.now g.key.now [] (length g.out.now) c.if-file-gt-FILE_LIMIT.false (sym c.is_key.ensures ∙ c.if-not-is_key.true)) (refl, refl)

-- the key is good
key : (c : Else-not-is_key) → is_key c.args.key.now ≡ true
key c = sym c.is_key.ensures ∙ c.if-not-is_key.false

pub returns-in_err-place : goal.returns-in_err-place
returns-in_err-place c =
    let g = c.args in
    let u = gate-unfit g.file.now c.gate.ensures c.in_err-place.was in
    let r : c.from_residual.result ≡ Err c.in_err-place.field-0.0 = search rules in
    rw (remove-8 g.file.now g.key.now [] (length g.out.now) c.if-file-gt-FILE_LIMIT.false (key (goal.at.returns-in_err-place c).Else-not-is_key) u.0, r, u.1) (refl, refl)

-- and the file is fit for editing
passed : (c : In_ok-place) → Passed c.args.file.now c.in_ok-place.place
passed c = gate-passed c.args.file.now c.gate.ensures c.in_ok-place.was

pub drop_keys-requires : goal.drop_keys-requires
drop_keys-requires c = (passed (goal.at.drop_keys-requires c).In_ok-place, c.if-file-gt-FILE_LIMIT.false)

pub returns : goal.returns
returns c =
    let g = c.args in
    rw (remove-rest g.file.now g.key.now [] (length g.out.now) c.if-file-gt-FILE_LIMIT.false (key (goal.at.returns c).Else-not-is_key) (passed (goal.at.returns c).In_ok-place).passes) c.drop_keys.ensures
