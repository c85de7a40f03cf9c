use Rattle.std.specs.Prelude.{Ok}
use mathlib.Core.Path.{◌≡◌, refl, sym, ap, ◌∙◌}
use mathlib.Core.Bool.{Bool, true, false, not, ◌&&◌}
use mathlib.Core.List.{List, [], ◌++◌}
use Prim.Native.Nat.{ℕ, ◌+◌, ◌-◌, ◌≤◌, ◌<◌}
use native.Mathlib.Omega.{arith}
use lib.ListN.{length, take}
use lib.Dec.{eqb}
use lib.Seq.{length-take-le, take-nil}
use Rattle.lists.specs.Write.{splice, part}
use Rattle.items.specs.Items.{Item, items_in, parse}
use Rattle.lists.specs.Choice.{is_some}
use Rattle.items.proofs.Area.{count-items}
use Rattle.ape.specs.Tag.{serialize}
use Rattle.ape_write.proofs.Tags.{serialize-length, tag-most}
use Rattle.tail_write.specs.Rewrite.{tagless, Tail, tail, tail_of, length_of}
use Rattle.tail_write.specs.declared.Place.{Place}
use Rattle.tail_write.specs.Answers.{place_in}
use Rattle.tail_write.proofs.Sent.{splice-none}
use Rattle.tail_write.proofs.Placing.{PlacesAs, places-as}
use Rattle.tail_write.proofs.Planning.{part-take, tail_none, tail_at, tail-length, plan-done, plan-short, plan-long, found_as}
use Rattle.tail_write.proofs.rewrite_items.Goals as goal
use Rattle.tail_write.proofs.rewrite_items.Goals.{After-new_length-new, After-place_in-place, After-unwritten, Start}

-- the file and the items
abbrev file : (b : Start) → List ℕ
file b = take b.args.total b.args.buf.now

abbrev items : (b : Start) → List Item
items b = items_in b.args.count b.args.area.now

file-length : (b : Start) → length (file b) ≡ b.args.total
file-length b = length-take-le b.args.total b.args.buf.now b.requires.0

-- the places
places : (buf : List ℕ) (total : ℕ) (p : Place) → p ≡ place_in (take (total - 0) buf) → PlacesAs (take total buf) p
places buf total p e =
    let z : total - 0 ≡ total = omega arith in
    places-as (take total buf) p (e ∙ ap (λ (n : ℕ). place_in (take n buf)) z)

placed : (c : After-place_in-place) → PlacesAs (take c.args.total c.args.buf.now) c.place_in-place.result
placed c = places c.args.buf.now c.args.total c.place_in-place.result c.place_in-place.ensures

-- whether nothing is written, by what the code tests
untagged : (s area : List ℕ) (count : ℕ) (p : Place) (u t : Bool) → PlacesAs s p → is_some (parse count area) ≡ true → u ≡ (not p.tagged && eqb count 0) → u ≡ t
    → (tagless s && eqb (length (items_in count area)) 0) ≡ t
untagged s area count p u t k w e f = rw (k.tagged_is, count-items count area w) (sym e ∙ f)

blank : (c : After-unwritten) (t : Bool) → c.unwritten.result ≡ t → (tagless (take c.args.total c.args.buf.now) && eqb (length (items_in c.args.count c.args.area.now)) 0) ≡ t
blank c t e =
    let k = places c.args.buf.now c.args.total c.place_in-place.result c.place_in-place.ensures in
    untagged (take c.args.total c.args.buf.now) c.args.area.now c.args.count c.place_in-place.result c.unwritten.result t k c.requires.2 c.unwritten.ensures e

-- the end of what is written, by its parts
parts : (c : After-new_length-new) → let p = c.place_in-place.result in
    length_of (tail_of (take c.args.total c.args.buf.now) (items_in c.args.count c.args.area.now)) ≡ p.end + length (serialize (items_in c.args.count c.args.area.now)) + (p.to - p.from)
parts c =
    let k = places c.args.buf.now c.args.total c.place_in-place.result c.place_in-place.ensures in
    tail-length (take c.args.total c.args.buf.now) (items_in c.args.count c.args.area.now) k
    (untagged (take c.args.total c.args.buf.now) c.args.area.now c.args.count c.place_in-place.result c.unwritten.result false k c.requires.2 c.unwritten.ensures c.if-unwritten.false)

-- how long the file is in the end
long : (c : After-new_length-new) → c.new_length-new.result ≡ length_of (tail_of (take c.args.total c.args.buf.now) (items_in c.args.count c.args.area.now))
long c =
    let n = serialize-length c.args.area.now c.args.count (λ i. omega (arith, c.type_inv.area i)) c.requires.2 in
    omega (arith, c.new_length-new.ensures, c.tag_length.ensures, n, parts c)

pub new_length-new-requires : goal.new_length-new-requires
new_length-new-requires c =
    let b = (goal.at.new_length-new-requires c).Start in
    let p = placed (goal.at.new_length-new-requires c).After-place_in-place in
    let n = file-length b in
    (omega (arith, p.end-within, n, c.requires.1), p.order, omega (arith, p.within, n, c.requires.1), omega (arith, c.tag_length.ensures, tag-most (length c.args.area.now) c.args.count))

pub returns-then-unwritten : goal.returns-then-unwritten
returns-then-unwritten c =
    let b = (goal.at.returns-then-unwritten c).Start in
    let g = c.args in
    let n = file-length b in
    let t : Tail = tail (length (file b)) [] in
    let plan = plan-done (file b) (items b) (length g.buf.now) t (tail_none (file b) (items b) (blank (goal.at.returns-then-unwritten c).After-unwritten _ c.if-unwritten.true)) (omega (arith, n, c.requires.0)) (omega (arith, n, c.requires.1)) in
    rw plan (
      ap Ok c.found_then.ensures ∙ found_as g.total g.budget g.total g.total t n (omega (arith, n)),
      sym (ap (splice g.buf.now (length (file b))) (take-nil g.budget) ∙ splice-none g.buf.now (length (file b))),
    )

pub returns-then-buf-new : goal.returns-then-buf-new
returns-then-buf-new c =
    let b = (goal.at.returns-then-buf-new c).Start in
    let h : length c.args.buf.now < length_of (tail_of (file b) (items b)) = omega (arith, long (goal.at.returns-then-buf-new c).After-new_length-new) in
    rw (plan-short (file b) (items b) (length c.args.buf.now) h) (refl, refl)

pub returns-then-new-gt-FILE_LIMIT : goal.returns-then-new-gt-FILE_LIMIT
returns-then-new-gt-FILE_LIMIT c =
    let b = (goal.at.returns-then-new-gt-FILE_LIMIT c).Start in
    let l = (goal.at.returns-then-new-gt-FILE_LIMIT c).After-new_length-new in
    let h : length_of (tail_of (file b) (items b)) ≤ length c.args.buf.now = omega (arith, long l) in
    let k : 16777216 < length_of (tail_of (file b) (items b)) = omega (arith, long l) in
    rw (plan-long (file b) (items b) (length c.args.buf.now) h k) (refl, refl)

pub put_tail-requires : goal.put_tail-requires
put_tail-requires c =
    let b = (goal.at.put_tail-requires c).Start in
    let l = (goal.at.put_tail-requires c).After-new_length-new in
    let p = placed (goal.at.put_tail-requires c).After-place_in-place in
    (p.order, omega (arith, p.within, file-length b, c.requires.0), p.few, c.requires.2, omega (arith, parts l, long l), omega (arith, parts l, long l))

pub found_then-requires-2 : goal.found_then-requires-2
found_then-requires-2 c =
    let l = (goal.at.found_then-requires-2 c).After-new_length-new in
    (omega (arith, parts l, long l), omega (arith, long l))

pub returns : goal.returns
returns c =
    let b = (goal.at.returns c).Start in
    let g = c.args in
    let place = c.place_in-place.result in
    let p = placed (goal.at.returns c).After-place_in-place in
    let t : Tail = tail place.end (serialize (items b) ++ part place.from place.to (file b)) in
    let is : tail_of (file b) (items b) ≡ t = tail_at (file b) (items b) p (blank (goal.at.returns c).After-unwritten false c.if-unwritten.false) in
    let n : length_of t ≡ c.new_length-new.result = sym (long (goal.at.returns c).After-new_length-new ∙ ap length_of is) in
    let plan = plan-done (file b) (items b) (length g.buf.now) t is (omega (arith, n)) (omega (arith, n)) in
    let same : part place.from place.to g.buf.now ≡ part place.from place.to (file b) = sym (part-take place.from place.to g.total g.buf.now (omega (arith, p.within, file-length b))) in
    rw plan (
      ap Ok c.found_then-2.ensures ∙ found_as g.total g.budget place.end c.new_length-new.result t refl n,
      c.put_tail.ensures ∙ ap (λ (r : List ℕ). splice g.buf.now place.end (take g.budget (serialize (items b) ++ r))) same,
    )
