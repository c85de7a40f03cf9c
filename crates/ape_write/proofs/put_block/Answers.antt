-- Six parts, one after another.
use mathlib.Core.List.{[], ◌∷◌}
use native.Mathlib.Omega.{arith}
use borrow.Author.Rules.{rules}
use Rattle.lists.specs.Le.{u32le}
use Rattle.lists.proofs.Wrote.{start, next, from_start}
use Rattle.frame.specs.Tail.{preamble}
use Rattle.ape.specs.Tag.{block_bytes}
use Rattle.ape_write.proofs.put_block.Goals as goal

pub returns : goal.returns
unfolding block_bytes
returns c =
    let g = c.args in
    let w1 = next (start g.out.now 0 (omega arith)) preamble c.put-a.ensures in
    let w2 = next w1 (u32le 2000) c.put_u32_le-b.ensures in
    let w3 = next w2 (u32le g.size) c.put_u32_le-c.ensures in
    let w4 = next w3 (u32le g.count) c.put_u32_le-d.ensures in
    let w5 = next w4 (u32le g.flags) c.put_u32_le-e.ensures in
    let w6 = next w5 (0 ∷ 0 ∷ 0 ∷ 0 ∷ 0 ∷ 0 ∷ 0 ∷ 0 ∷ []) c.put.ensures in
    from_start w6
