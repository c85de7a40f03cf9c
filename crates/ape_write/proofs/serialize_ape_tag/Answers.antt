use mathlib.Core.Path.{◌≡◌, refl, sym, ◌∙◌}
use mathlib.Core.Bool.{true}
use Prim.Native.Nat.{◌≤◌, ◌<◌}
use native.Mathlib.Omega.{arith}
use borrow.Author.Rules.{rules}
use borrow.Author.Tests.{le-leb, lt-leb, not-true, not-false}
use lib.ListN.{length}
use Rattle.lists.specs.Choice.{is_some}
use Rattle.items.specs.Items.{parse, items_in}
use Rattle.ape.specs.Tag.{serialize}
use Rattle.ape_write.specs.Answers.{serialize_plan}
use Rattle.ape_write.proofs.Tags.{serialize-length}
use Rattle.ape_write.proofs.serialize_ape_tag.Goals as goal
use Rattle.ape_write.proofs.serialize_ape_tag.Goals.{After-tag_length-n, Else-not-well_formed}

pub returns-then-not-well_formed : goal.returns-then-not-well_formed
unfolding serialize_plan
returns-then-not-well_formed c = rw (← c.well_formed-2.ensures, c.if-not-well_formed.true) (refl, refl)

-- the area is well formed
good : (c : Else-not-well_formed) → is_some (parse c.args.count c.args.area.now) ≡ true
good c = sym c.well_formed-2.ensures ∙ c.if-not-well_formed.false

-- and this is how long its tag is
long : (c : After-tag_length-n) → c.tag_length-n.result ≡ length (serialize (items_in c.args.count c.args.area.now))
long c = c.tag_length-n.ensures ∙ sym (serialize-length c.args.area.now c.args.count (λ i. omega (arith, c.shared_slice_known-1.given i)) ((let it : is_some (parse c.args.count c.args.area.now) ≡ true = sym c.well_formed-2.ensures ∙ c.if-not-well_formed.false in it)))

pub returns-then-out-n : goal.returns-then-out-n
unfolding serialize_plan
returns-then-out-n c =
    let h : length c.args.out.now < length (serialize (items_in c.args.count c.args.area.now)) = omega (arith, long (goal.at.returns-then-out-n c).After-tag_length-n) in
    rw (good (goal.at.returns-then-out-n c).Else-not-well_formed, lt-leb _ _ h) (refl, refl)

pub returns-then-n-gt-FILE_LIMIT : goal.returns-then-n-gt-FILE_LIMIT
unfolding serialize_plan
returns-then-n-gt-FILE_LIMIT c =
    let n = length (serialize (items_in c.args.count c.args.area.now)) in
    let h : n ≤ length c.args.out.now = omega (arith, long (goal.at.returns-then-n-gt-FILE_LIMIT c).After-tag_length-n) in
    let k : 16777216 < n = omega (arith, long (goal.at.returns-then-n-gt-FILE_LIMIT c).After-tag_length-n) in
    rw (good (goal.at.returns-then-n-gt-FILE_LIMIT c).Else-not-well_formed, le-leb _ _ h, lt-leb _ _ k) (refl, refl)

pub put_tag-requires : goal.put_tag-requires
put_tag-requires c =
    (good (goal.at.put_tag-requires c).Else-not-well_formed, omega (arith, long (goal.at.put_tag-requires c).After-tag_length-n), omega (arith, long (goal.at.put_tag-requires c).After-tag_length-n))

pub returns : goal.returns
unfolding serialize_plan
returns c =
    let n = length (serialize (items_in c.args.count c.args.area.now)) in
    let h : n ≤ length c.args.out.now = omega (arith, long (goal.at.returns c).After-tag_length-n) in
    let k : n ≤ 16777216 = omega (arith, long (goal.at.returns c).After-tag_length-n) in
    rw (good (goal.at.returns c).Else-not-well_formed, le-leb _ _ h, le-leb _ _ k, c.put_tag.ensures.0) (refl, c.put_tag.ensures.1)
