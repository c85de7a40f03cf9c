use mathlib.Core.Path.{◌≡◌, refl, ap, ◌∙◌}
use Prim.Native.Nat.{◌+◌, ◌≤◌}
use native.Mathlib.Omega.{arith}
use lib.ListN.{length}
use lib.Seq.{take-nil}
use Rattle.items.specs.Items.{items_in}
use Rattle.items.proofs.Area.{parse-fits}
use Rattle.ape.specs.Tag.{serialize}
use Rattle.ape_write.proofs.Tags.{length-parts, serialize-parts, serialize-none}
use Rattle.tail_write.proofs.put_tag_within.Goals as goal
use Rattle.tail_write.proofs.put_tag_within.Goals.{Else-count-eq0}

pub returns-then-count-eq0 : goal.returns-then-count-eq0
returns-then-count-eq0 c =
    rw (serialize-none c.args.area.now c.args.count (λ i. omega (arith, c.type_inv.area i)) c.requires.0 c.if-count-eq0.true, take-nil c.args.budget) (omega arith, refl)

-- there are items: the tag is 64 bytes longer than they are
long : (c : Else-count-eq0) → let g = c.args in
    (length g.area.now + 64 ≤ 16777216) × (length (serialize (items_in g.count g.area.now)) ≡ length g.area.now + 64)
long c =
    let s = c.args.area.now in
    let e : length (serialize (items_in c.args.count s)) ≡ length s + 64 =
    ap length (serialize-parts s c.args.count (λ i. omega (arith, c.type_inv.area i)) c.requires.0 (omega (arith, c.if-count-eq0.false)))
    ∙ length-parts s c.args.count in
    (omega (arith, e, c.requires.1), e)

pub overflow_cast-count : goal.overflow_cast-count
overflow_cast-count c =
    omega (arith, long (goal.at.overflow_cast-count c).Else-count-eq0, parse-fits c.args.count c.args.area.now c.requires.0)

pub put_parts_within-requires : goal.put_parts_within-requires
put_parts_within-requires c = let l = long (goal.at.put_parts_within-requires c).Else-count-eq0 in (omega (arith, l), omega (arith, l, c.requires.2))

pub returns : goal.returns
returns c =
    let s = c.args.area.now in
    rw (serialize-parts s c.args.count (λ i. omega (arith, c.type_inv.area i)) c.requires.0 (omega (arith, c.if-count-eq0.false)), length-parts s c.args.count)
    c.put_parts_within.ensures
