-- What follows is taken aside; then two parts, each into the rest of the buffer, until the budget is spent.
use mathlib.Core.Path.{◌≡◌, sym, ap, ◌∙◌}
use mathlib.Core.List.{List}
use Prim.Native.Nat.{ℕ, ◌+◌, ◌-◌}
use native.Mathlib.Omega.{arith}
use borrow.Author.Rules.{rules}
use lib.ListN.{length, take, drop}
use lib.Seq.{take_at}
use Rattle.lists.specs.Write.{over, part}
use Rattle.lists.proofs.Wrote.{length_rest, at_front}
use Rattle.lists.proofs.Places.{length_part}
use Rattle.items.specs.Items.{items_in}
use Rattle.ape.specs.Tag.{serialize}
use Rattle.ape_write.proofs.Tags.{serialize-length}
use Rattle.tail_write.proofs.Sent.{unsent, send-rest}
use Rattle.tail_write.proofs.put_tail.Goals as goal
use Rattle.tail_write.proofs.put_tail.Goals.{After-put-n, After-tag_length, Start}

-- the tag, what follows it, and their lengths
abbrev tag : (b : Start) → List ℕ
tag b = serialize (items_in b.args.count b.args.area.now)

abbrev rest : (b : Start) → List ℕ
rest b = part b.args.place.from b.args.place.to b.args.buf.now

rest-length : (b : Start) → length (rest b) ≡ b.args.place.to - b.args.place.from
rest-length b = length_part b.args.place.from b.args.place.to b.args.buf.now b.requires.1

-- what was taken aside is what follows
aside : (zeros w : List ℕ) {xs : List ℕ} (n : ℕ) → n ≡ 0 + length w → xs ≡ over w zeros → take (n - 0) xs ≡ w
aside zeros w n e f = ap (take (n - 0)) f ∙ take_at w (drop (length w) zeros) (n - 0) (omega arith)

kept : (c : After-put-n) → take (c.put-n.result - 0) c.put-n.new.out ≡ (part c.args.place.from c.args.place.to c.args.buf.now)
kept c = aside _ (part c.args.place.from c.args.place.to c.args.buf.now) c.put-n.result c.put-n.ensures.0 (c.put-n.ensures.1 ∙ at_front _ (part c.args.place.from c.args.place.to c.args.buf.now))

-- how long the tag is
long : (c : After-tag_length) → c.tag_length.result ≡ length (serialize (items_in c.args.count c.args.area.now))
long c = c.tag_length.ensures ∙ sym (serialize-length c.args.area.now c.args.count (λ i. omega (arith, c.type_inv.area i)) c.requires.3)

pub put_tag_within-left-requires : goal.put_tag_within-left-requires
put_tag_within-left-requires c =
    (c.requires.3, omega (arith, c.requires.4), rw length_rest (omega (arith, c.requires.5)))

pub put_within-requires : goal.put_within-requires
put_within-requires c =
    rw (kept (goal.at.put_within-requires c).After-put-n, rest-length (goal.at.put_within-requires c).Start, length_rest) (omega (arith, long (goal.at.put_within-requires c).After-tag_length, c.requires.5, c.put_tag_within-left.auto.out))

pub returns : goal.returns
returns c =
    let g = c.args in
    let k = g.budget in
    let w1 = send-rest (unsent g.buf.now g.place.end k (omega (arith, c.requires.5))) (tag (goal.at.returns c).Start) g.place.end k (omega arith) (omega arith) (omega (arith, c.requires.5)) _ c.put_tag_within-left.ensures.1 in
    let w2 = send-rest w1 (rest (goal.at.returns c).Start) (g.place.end + c.tag_length.result) c.put_tag_within-left.result (omega (arith, long (goal.at.returns c).After-tag_length)) c.put_tag_within-left.ensures.0 (omega (arith, long (goal.at.returns c).After-tag_length, rest-length (goal.at.returns c).Start, c.requires.5)) _ (rw (kept (goal.at.returns c).After-put-n) at c.put_within.ensures.1) in
    w2.is

pub overflow_add-at : goal.overflow_add-at
overflow_add-at c = omega (arith, long c, c.requires.4)

pub slice_bounds-put_within-count : goal.slice_bounds-put_within-count
slice_bounds-put_within-count c = let l = long c in let b = c.requires.5 in search rules

pub slice_bounds-put_within-start : goal.slice_bounds-put_within-start
slice_bounds-put_within-start c = let l = long c in let b = c.requires.5 in search rules
