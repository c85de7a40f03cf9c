use mathlib.Core.Path.{◌≡◌, ap, ◌∙◌}
use Prim.Native.Nat.{◌+◌, ◌-◌, ◌≤◌}
use native.Mathlib.Omega.{arith}
use borrow.Author.Rules.{rules}
use lib.ListN.{length, take}
use Rattle.lists.specs.Write.{part}
use Rattle.lists.proofs.Places.{length_part}
use Rattle.decimal.specs.declared.Text.{Text}
use Rattle.decimal.proofs.Texts.{text-part}
use Rattle.values.specs.Stored.{shift_stored}
use Rattle.area_shift.specs.Shift.{shifted_bytes}
use Rattle.area_shift.proofs.Shifting.{Moved, bytes-moved, stays-bytes, moved-text, moved-size, kept-room, moved-room}
use Rattle.area_shift.proofs.put_item.Goals as goal
use Rattle.area_shift.proofs.put_item.Goals.{In-Some, In_default}

-- it stays as found
stays : (c : In_default) → let g = c.args in
    shifted_bytes g.steps.0 g.area.now g.at g.stop g.end ≡ part g.at g.end g.area.now
stays c = let g = c.args in stays-bytes g.steps.0 g.area.now g.at g.stop g.end c.in_default.ensures

pub put_part-requires : goal.put_part-requires
put_part-requires c =
    let g = c.args in
    kept-room g.at g.stop g.end (length g.area.now) g.o (length g.out.now) c.requires.0 c.requires.1 c.requires.2
    (ap length (stays (goal.at.put_part-requires c).In_default) ∙ length_part g.at g.end g.area.now c.requires.2) c.requires.3

pub returns-in_default : goal.returns-in_default
returns-in_default c = rw (stays (goal.at.returns-in_default c).In_default) (c.put_part.ensures.0, c.put_part.ensures.1)

-- it has a new text
moved : (c : In-Some) → let g = c.args in
    Moved (shift_stored (part (g.at + 8) g.stop g.area.now) (part (g.stop + 1) g.end g.area.now) g.steps.0) c.in-Some.text
moved c = let g = c.args in moved-text g.steps.0 g.area.now g.at g.stop g.end c.in-Some.ensures

-- how long it then is
sized : (c : In-Some) → let g = c.args in
    let t = c.in-Some.text in
    (length (shifted_bytes g.steps.0 g.area.now g.at g.stop g.end) ≡ g.stop + 1 - g.at + t.len) × (t.len ≤ 21) × (t.len ≤ length t.bytes)
sized c =
    let g = c.args in
    moved-size g.steps.0 g.area.now g.at g.stop g.end c.in-Some.ensures c.requires.0 c.requires.1 c.requires.2

pub as_slice-requires : goal.as_slice-requires
as_slice-requires c = (sized (goal.at.as_slice-requires c).In-Some).2

-- the text as it is lent
lent : (c : In-Some) → let t = c.in-Some.text in (take t.len t.bytes ≡ (moved c).w) × (t.len ≡ length (moved c).w)
lent c =
    let t = c.in-Some.text in
    (text-part t (moved c).w (moved c).text, ap (λ (t : Text). t.len) (moved c).text)

pub put_changed-requires : goal.put_changed-requires
put_changed-requires c =
    let g = c.args in
    let p = (goal.at.put_changed-requires c).In-Some in
    let (l, n) = lent p in
    let z = sized p in
    rw (c.as_slice.ensures, l)
    (moved-room g.at g.stop g.end (length g.area.now) g.o (length g.out.now) (length (moved p).w) c.requires.0 c.requires.1 c.requires.2 (omega (arith, z, n)) c.requires.3 (omega (arith, z, n)))

pub returns : goal.returns
returns c =
    let g = c.args in
    let p = (goal.at.returns c).In-Some in
    let m = moved p in
    let l = c.as_slice.ensures ∙ (lent p).0 in
    let y = c.put_changed.ensures in
    rw (bytes-moved g.steps.0 g.area.now g.at g.stop g.end m.w m.is) (rw l at y.0, rw l at y.1)

pub shape_of-out-in_default : goal.shape_of-out-in_default
shape_of-out-in_default c = c.put_part.auto.out

pub shape_of-out : goal.shape_of-out
shape_of-out c = c.put_changed.auto.out
