-- Three parts, each into the rest of the output.
use mathlib.Core.Path.{◌≡◌, ◌∙◌}
use Prim.Native.Nat.{◌+◌}
use native.Mathlib.Omega.{arith}
use borrow.Author.Rules.{rules}
use lib.ListN.{length}
use Rattle.lists.proofs.Wrote.{first, at_front, into-rest, from_start}
use Rattle.ape.specs.Tag.{block_bytes, header_flags, footer_flags}
use Rattle.ape_write.specs.Answers.{tag_parts}
use Rattle.ape_write.proofs.put_parts.Goals as goal

pub returns : goal.returns
unfolding block_bytes tag_parts
returns c =
    let g = c.args in
    let s = g.area.now in
    let size = length s + 32 in
    let w1 = first g.out.now (block_bytes size g.count header_flags) c.put_block.ensures in
    let w2 = into-rest w1 s _ (c.put.ensures.1 ∙ at_front _ s) in
    let e : length s + 32 ≡ 32 + length s = omega arith in
    let w3 = into-rest w2 (block_bytes size g.count footer_flags) _ c.put_block-2.ensures in
    from_start w3
