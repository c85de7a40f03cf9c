use mathlib.Core.Path.{◌≡◌, sym, ap, ◌∙◌}
use mathlib.Core.Bool.{true}
use mathlib.Core.Logic.{⊎_elim}
use Prim.Native.Nat.{◌<◌}
use native.Mathlib.Omega.{arith}
use borrow.Author.Rules.{rules}
use lib.ListN.{length}
use Rattle.lists.specs.Choice.{is_some}
use Rattle.replies.specs.Limits.{file_limit}
use Rattle.replies.specs.Refusal.{no}
use Rattle.keys.proofs.Keys.{key-length}
use Rattle.items.specs.Items.{area_bytes, parse, items_in, set_item}
use Rattle.items.proofs.Located.{located, unlocated}
use Rattle.items.proofs.Places.{set_holds}
use Rattle.area_edit.proofs.Plans.{fits-yes, fits-room, fits-long, set-12, set-3, set-4, set-5, set-yes, refused, finished}
use Rattle.area_edit.proofs.set.Goals as goal
use Rattle.area_edit.proofs.set.Goals.{In_ok-place}

pub returns-in_err-place : goal.returns-in_err-place
returns-in_err-place c =
    let g = c.args in
    let (u, r) = unlocated g.area.now g.count g.key.now _ c.in_err-place.ensures in
    let (e, o) = refused g.out.now (set-12 g.count g.area.now (length g.out.now) g.key.now g.value.now u ∙ ap no (sym r)) in
    (search rules, o)

-- the area is well formed
fine : (c : In_ok-place) → is_some (parse c.args.count c.args.area.now) ≡ true
fine c = (located c.args.area.now c.args.count c.args.key.now c.in_ok-place.place c.in_ok-place.ensures).some

pub returns-then-not-is_key : goal.returns-then-not-is_key
returns-then-not-is_key c =
    let g = c.args in
    refused g.out.now (set-3 g.count g.area.now _ g.key.now g.value.now (fine (goal.at.returns-then-not-is_key c).In_ok-place) (sym c.if-not-is_key.ensures))

pub returns-then-not-is_utf8 : goal.returns-then-not-is_utf8
returns-then-not-is_utf8 c =
    let g = c.args in
    refused g.out.now (set-4 g.count g.area.now _ g.key.now g.value.now (fine (goal.at.returns-then-not-is_utf8 c).In_ok-place) (sym c.if-not-is_key.ensures) (sym c.if-not-is_utf8.ensures))

pub returns-then-value-gt-FILE_LIMIT : goal.returns-then-value-gt-FILE_LIMIT
returns-then-value-gt-FILE_LIMIT c =
    let g = c.args in
    let h : file_limit < length (area_bytes (set_item g.key.now g.value.now (items_in g.count g.area.now))) =
    omega (arith, set_holds g.key.now g.value.now (items_in g.count g.area.now)) in
    refused g.out.now (set-5 g.count g.area.now _ g.key.now g.value.now (fine (goal.at.returns-then-value-gt-FILE_LIMIT c).In_ok-place) (sym c.if-not-is_key.ensures) (sym c.if-not-is_utf8.ensures) (fits-long _ _ h))

pub measure_set-n-requires : goal.measure_set-n-requires
measure_set-n-requires c = (c.in_ok-place.ensures, (key-length c.args.key.now (sym c.if-not-is_key.ensures)).1, c.if-value-gt-FILE_LIMIT.false)

pub returns-then-out-n : goal.returns-then-out-n
returns-then-out-n c =
    let g = c.args in
    let e = c.measure_set-n.ensures.1 in
    refused g.out.now (set-5 g.count g.area.now _ g.key.now g.value.now (fine (goal.at.returns-then-out-n c).In_ok-place) (sym c.if-not-is_key.ensures) (sym c.if-not-is_utf8.ensures)
    (⊎_elim (λ h. fits-room _ _ (omega arith)) (λ h. fits-long _ _ (omega arith)) c.then-out-n.either))

pub returns : goal.returns
returns c =
    let g = c.args in
    let e = c.write_set.ensures in
    finished g.out.now
    (set-yes g.count g.area.now _ g.key.now g.value.now (fine (goal.at.returns c).In_ok-place) (sym c.if-not-is_key.ensures) (sym c.if-not-is_utf8.ensures)
    (fits-yes _ _ (omega (arith, c.measure_set-n.ensures.1, c.if-out-n.false)) (omega (arith, c.measure_set-n.ensures.1, c.if-n-gt-FILE_LIMIT.false))))
    e.0 e.1 e.2
