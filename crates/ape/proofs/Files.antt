-- Laws of files: where a footer stands, and what reading answers, by the tests of the code.
use Prim.Native.Nat.{ℕ, ◌+◌, ◌-◌, ◌≤◌, ◌<◌}
use native.Mathlib.Omega.{arith}
use mathlib.Core.Path.{◌≡◌, refl, sym, ap, ◌∙◌}
use mathlib.Core.Bool.{Bool, true, false, ◌&&◌, cond, true≢false}
use Rattle.std.specs.Prelude.{None, Some}
use mathlib.Core.List.{List}
use lib.ListN.{length, take, drop}
use lib.Dec.{leb}
use borrow.Author.Tests.{leb-true, leb-false, le-leb, lt-leb, eq-eqb, ne_eqb}
use Rattle.lists.specs.Bytes.{starts_with}
use Rattle.replies.specs.Refusal.{no, yes}
use Rattle.replies.specs.declared.Refusal.TheVariants.{FileTooLong}
use Rattle.frame.specs.Tail.{preamble, id3v1_mark, stands_at}
use Rattle.items.specs.Items.{Item}
use Rattle.ape.specs.Tag.{block_bytes, find_footer, version_at, size_at, count_at, area_at, read_items, read_tag}
use Rattle.ape.specs.Answers.{items_plan, read_plan}

pub length-block : (size count flags : ℕ) → length (block_bytes size count flags) ≡ 32
unfolding block_bytes
length-block size count flags = refl

pub stands-long : (n : ℕ) (p s : List ℕ) → stands_at n p s ≡ true → n ≤ length s
unfolding stands_at
stands-long n p s e = go (leb n (length s)) refl
  where
    go : (t : Bool) → leb n (length s) ≡ t → n ≤ length s
    go true q = leb-true _ _ q
    go false q = absurd (true≢false (sym e ∙ ap (λ b. b && starts_with p (drop (length s - n) s)) q))

-- a footer that is found stands whole in the file, at its end or 128 bytes before it
pub footer-within : (s : List ℕ) (f : ℕ) → find_footer s ≡ Some f → f + 32 ≤ length s
unfolding find_footer
footer-within s f e = go (stands_at 32 preamble s) (stands_at 160 preamble s) refl refl e
  where
    second : (b : Bool) → 160 ≤ length s → cond b (Some (length s - 160)) None ≡ Some f → f + 32 ≤ length s
    second true h e = let q : length s - 160 ≡ f = cc in omega arith
    second false h e = absurd (let z : ◌≡◌ {A = ℕ} 0 1 = cc in omega arith)

    go : (a b : Bool) → stands_at 32 preamble s ≡ a → stands_at 160 preamble s ≡ b
        → cond a (Some (length s - 32)) (cond (b && stands_at 128 id3v1_mark s) (Some (length s - 160)) None) ≡ Some f → f + 32 ≤ length s
    go true b p q e = let h : 32 ≤ length s = stands-long 32 preamble s p in let r : length s - 32 ≡ f = cc in omega arith
    go false true p q e = second (stands_at 128 id3v1_mark s) (stands-long 160 preamble s q) e
    go false false p q e = absurd (let z : ◌≡◌ {A = ℕ} 0 1 = cc in omega arith)

-- ---- reading

module _ (s : List ℕ) where
  pub tag-none : find_footer s ≡ None → read_tag s ≡ None
  unfolding read_tag
  tag-none e = rw e

  module _ (f : ℕ) (at : find_footer s ≡ Some f) where
    pub tag-version : (version_at s f ≡ 2000 → ⊥) → read_tag s ≡ None
    unfolding read_tag
    tag-version h = rw (at, ne_eqb _ _ h)

    pub tag-long : version_at s f ≡ 2000 → f + 32 < size_at s f → read_tag s ≡ None
    unfolding read_tag
    tag-long v h = rw (at, eq-eqb _ _ v, lt-leb _ _ h)

    pub tag_read : version_at s f ≡ 2000 → size_at s f ≤ f + 32 → read_tag s ≡ Some (read_items (count_at s f) (area_at s f))
    unfolding read_tag
    tag_read v h = rw (at, eq-eqb _ _ v, le-leb _ _ h)

  -- the bytes of the items, as the code takes them
  pub area-part : (f r size : ℕ) → size_at s f ≡ size → f - r ≡ size - 32 → (32 ≤ size → r ≡ f + 32 - size) → take (f - r) (drop r s) ≡ area_at s f
  unfolding area_at
  area-part f r size z e h = rw (z, e) (go (leb 32 size) refl)
    where
      go : (t : Bool) → leb 32 size ≡ t → take (size - 32) (drop r s) ≡ take (size - 32) (drop (f + 32 - size) s)
      go true p = ap (λ (i : ℕ). take (size - 32) (drop i s)) (h (leb-true _ _ p))
      go false p = let n : size - 32 ≡ 0 = omega (arith, leb-false 32 size p) in rw n

  -- the tag, by what the code reads of it
  pub tag-here : (f : ℕ) (start : ℕ) {version size count : ℕ} → find_footer s ≡ Some f → version ≡ version_at s f → version ≡ 2000 → size ≡ size_at s f → size ≤ f + 32
      → count ≡ count_at s f → f - start ≡ size - 32 → (32 ≤ size → start ≡ f + 32 - size) → read_tag s ≡ Some (read_items count (take (f - start) (drop start s)))
  tag-here f start {version} {size} {count} at v is z h n e k =
      tag_read f at (sym v ∙ is) (rw z at h) ∙ ap Some (ap (λ (i : ℕ). read_items i (area_at s f)) (sym n) ∙ ap (read_items count) (sym (area-part f start size (sym z) e k)))

  module _ (room : ℕ) where
    pub plan-long : 16777216 < length s → read_plan s room ≡ no FileTooLong
    unfolding read_plan
    plan-long h = rw (lt-leb _ _ h)

    pub plan-none : length s ≤ 16777216 → read_tag s ≡ None → read_plan s room ≡ yes None
    unfolding read_plan
    plan-none h e = rw (le-leb _ _ h, e, le-leb 0 room (omega arith))

    pub plan-some : length s ≤ 16777216 → (ts : List Item) → read_tag s ≡ Some ts → read_plan s room ≡ items_plan room ts
    unfolding read_plan
    plan-some h ts e = rw (le-leb _ _ h, e)
