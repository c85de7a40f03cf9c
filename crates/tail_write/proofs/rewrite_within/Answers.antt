use mathlib.Core.Path.{◌≡◌, refl, sym, ◌∙◌}
use mathlib.Core.Bool.{true}
use Prim.Native.Nat.{◌≤◌, ◌<◌}
use native.Mathlib.Omega.{arith}
use borrow.Author.Tests.{le-leb, lt-leb}
use lib.ListN.{length, take}
use lib.Seq.{length-take-le}
use Rattle.lists.specs.Choice.{is_some}
use Rattle.items.specs.Items.{parse}
use Rattle.tail_write.specs.Answers.{room_plan, rewrite_plan}
use Rattle.tail_write.proofs.rewrite_within.Goals as goal
use Rattle.tail_write.proofs.rewrite_within.Goals.{Else-buf-total, Else-not-well_formed, Else-total-gt-FILE_LIMIT}

pub returns-then-buf-total : goal.returns-then-buf-total
unfolding rewrite_plan
returns-then-buf-total c = rw (lt-leb _ _ c.if-buf-total.true) (refl, refl)

-- the file is as long as is stated
whole : (c : Else-buf-total) → length (take c.args.total c.args.buf.now) ≡ c.args.total
whole c = let g = c.args in length-take-le g.total g.buf.now c.if-buf-total.false

pub returns-then-total-gt-FILE_LIMIT : goal.returns-then-total-gt-FILE_LIMIT
unfolding rewrite_plan
returns-then-total-gt-FILE_LIMIT c =
    let g = c.args in
    let h : 16777216 < length (take g.total g.buf.now) = omega (arith, whole (goal.at.returns-then-total-gt-FILE_LIMIT c).Else-buf-total) in
    rw (le-leb _ _ c.if-buf-total.false, lt-leb _ _ h) (refl, refl)

-- and within the limit
short : (c : Else-total-gt-FILE_LIMIT) → length (take c.args.total c.args.buf.now) ≤ 16777216
short c = omega (arith, length-take-le c.args.total c.args.buf.now c.if-buf-total.false)

pub returns-then-not-well_formed : goal.returns-then-not-well_formed
unfolding rewrite_plan
returns-then-not-well_formed c =
    rw (le-leb _ _ c.if-buf-total.false, le-leb _ _ (short (goal.at.returns-then-not-well_formed c).Else-total-gt-FILE_LIMIT), ← c.well_formed-2.ensures, c.if-not-well_formed.true) (refl, refl)

-- the area is well formed
good : (c : Else-not-well_formed) → is_some (parse c.args.count c.args.area.now) ≡ true
good c = sym c.well_formed-2.ensures ∙ c.if-not-well_formed.false

pub returns : goal.returns
unfolding rewrite_plan room_plan
returns c =
    rw (le-leb _ _ c.if-buf-total.false, le-leb _ _ (short (goal.at.returns c).Else-total-gt-FILE_LIMIT), good (goal.at.returns c).Else-not-well_formed) c.rewrite_items.ensures

pub rewrite_items-requires : goal.rewrite_items-requires
rewrite_items-requires c = (c.if-buf-total.false, c.if-total-gt-FILE_LIMIT.false, good (goal.at.rewrite_items-requires c).Else-not-well_formed)
