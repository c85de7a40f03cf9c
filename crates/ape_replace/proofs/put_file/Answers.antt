-- Three parts, each into the rest of the output.
use mathlib.Core.Path.{◌≡◌, ap, ◌∙◌}
use mathlib.Core.List.{List, ◌++◌, append_assoc}
use Prim.Native.Nat.{ℕ, ◌+◌, ◌-◌, ◌≤◌}
use native.Mathlib.Omega.{arith}
use borrow.Author.Rules.{rules}
use lib.ListN.{length}
use Rattle.lists.specs.Write.{over, part}
use Rattle.lists.proofs.Wrote.{start, next, at_front, into-rest, from_start, length_rest}
use Rattle.items.specs.Items.{Item, items_in}
use Rattle.ape.specs.Tag.{serialize, replaced}
use Rattle.ape_replace.proofs.Cutting.{ended, replaced-is, replaced-length}
use Rattle.ape_replace.proofs.put_file.Goals as goal
use Rattle.ape_replace.proofs.put_file.Goals.{After-put_long_part-a, Start}

-- the items, and how long the file is
abbrev items : (b : Start) → List Item
items b = items_in b.args.count b.args.area.now

size : (b : Start) → length (replaced b.args.file.now (items b)) ≡ b.args.cut.front + length (serialize (items b)) + (b.args.cut.to - b.args.cut.from)
size b = replaced-length b.requires.0 (items b)

pub put_long_part-a-requires : goal.put_long_part-a-requires
put_long_part-a-requires c = (omega arith, c.requires.0.front-within, omega (arith, size (goal.at.put_long_part-a-requires c).Start, c.requires.3))

-- the front is written
front : (c : After-put_long_part-a) → (c.put_long_part-a.result ≡ c.args.cut.front) × (c.args.cut.front ≤ 16777216)
front c = (omega (arith, c.put_long_part-a.ensures.2), omega (arith, (let it : length (replaced c.args.file.now ((items_in c.args.count c.args.area.now))) ≡ c.args.cut.front + length (serialize ((items_in c.args.count c.args.area.now))) + (c.args.cut.to - c.args.cut.from) = replaced-length c.requires.0 ((items_in c.args.count c.args.area.now)) in it), c.requires.2))

pub put_tag-n-requires : goal.put_tag-n-requires
put_tag-n-requires c =
    let f = front (goal.at.put_tag-n-requires c).After-put_long_part-a in
    (c.requires.1, omega (arith, size (goal.at.put_tag-n-requires c).Start, c.requires.2), rw length_rest (omega (arith, size (goal.at.put_tag-n-requires c).Start, c.requires.3, f, c.put_long_part-a.auto.out)))

pub put_part-m-requires : goal.put_part-m-requires
put_part-m-requires c =
    let f = front (goal.at.put_part-m-requires c).After-put_long_part-a in
    (c.requires.0.order, c.requires.0.within, rw length_rest (omega (arith, size (goal.at.put_part-m-requires c).Start, c.requires.3, f, c.put_long_part-a.auto.out, c.put_tag-n.ensures.0, c.put_tag-n.auto.out)))

pub returns : goal.returns
returns c =
    let g = c.args in
    let s = g.file.now in
    let t = serialize (items (goal.at.returns c).Start) in
    let r = part g.cut.from g.cut.to s in
    let p = c.put_long_part-a in
    let n = c.put_tag-n in
    let w1 = next (start g.out.now 0 (omega arith)) (part 0 g.cut.front s) (p.ensures.0, p.ensures.1) in
    let w2 = ended (into-rest w1 t _ n.ensures.1) (p.result + n.result) (omega (arith, n.ensures.0)) in
    let w3 = into-rest w2 r _ (c.put_part-m.ensures.1 ∙ at_front _ r) in
    let z : g.cut.front - 0 ≡ g.cut.front = omega arith in
    let same : (part 0 g.cut.front s ++ t) ++ r ≡ replaced s (items (goal.at.returns c).Start) = rw (z, replaced-is c.requires.0 (items (goal.at.returns c).Start)) (simp append_assoc) in
    (omega (arith, size (goal.at.returns c).Start, p.ensures.2, n.ensures.0, c.put_part-m.ensures.2), from_start w3 ∙ ap (λ (w : List ℕ). over w g.out.now) same)

pub slice_bounds-put_tag-count : goal.slice_bounds-put_tag-count
slice_bounds-put_tag-count c = omega (arith, front (goal.at.slice_bounds-put_tag-count c).After-put_long_part-a, size (goal.at.slice_bounds-put_tag-count c).Start, c.requires.3, c.put_long_part-a.auto.out)

pub slice_bounds-put_tag-start : goal.slice_bounds-put_tag-start
slice_bounds-put_tag-start c = omega (arith, front (goal.at.slice_bounds-put_tag-start c).After-put_long_part-a, size (goal.at.slice_bounds-put_tag-start c).Start, c.requires.3, c.put_long_part-a.auto.out)

pub overflow_add-b : goal.overflow_add-b
overflow_add-b c = omega (arith, front (goal.at.overflow_add-b c).After-put_long_part-a, c.put_tag-n.ensures.0, size (goal.at.overflow_add-b c).Start, c.requires.2)

pub slice_bounds-put_part-count : goal.slice_bounds-put_part-count
slice_bounds-put_part-count c = let f = front (goal.at.slice_bounds-put_part-count c).After-put_long_part-a in let z = size (goal.at.slice_bounds-put_part-count c).Start in let p = c.requires.3 in let n = c.put_tag-n.ensures.0 in search rules

pub slice_bounds-put_part-start : goal.slice_bounds-put_part-start
slice_bounds-put_part-start c = let f = front (goal.at.slice_bounds-put_part-start c).After-put_long_part-a in let z = size (goal.at.slice_bounds-put_part-start c).Start in let p = c.requires.3 in let n = c.put_tag-n.ensures.0 in search rules

pub overflow_add-result : goal.overflow_add-result
overflow_add-result c = omega (arith, front (goal.at.overflow_add-result c).After-put_long_part-a, c.put_tag-n.ensures.0, c.put_part-m.ensures.2, size (goal.at.overflow_add-result c).Start, c.requires.2)
