-- Laws of `tail_of` and of the plan, by the tests of the code.
use Prim.Native.Nat.{ℕ, ◌+◌, ◌-◌, ◌≤◌, ◌<◌, max}
use native.Mathlib.Omega.{arith}
use mathlib.Core.Path.{◌≡◌, refl, sym, ap, ◌∙◌}
use mathlib.Core.Bool.{Bool, true, false, ◌&&◌, cond, and-eq-true_iff}
use Rattle.std.specs.Prelude.{Ok, None, Some}
use mathlib.Core.List.{List, [], ◌∷◌, ◌++◌}
use lib.ListN.{length, take, drop, length-append}
use lib.Seq.{take-take, take_all, take-length}
use lib.Dec.{leb, ltb, eqb}
use borrow.Author.Tests.{leb-true, le-leb, lt-leb, lt-ltb}
use Rattle.lists.specs.Write.{part}
use Rattle.lists.proofs.Places.{length_part}
use Rattle.replies.specs.Refusal.{Test, need, refusal_of, Plan, no, yes, planned}
use Rattle.replies.specs.declared.Refusal.TheVariants.{NoRoom}
use Rattle.replies.proofs.Order.{passed, done}
use Rattle.items.specs.Items.{Item, items_in}
use Rattle.frame.specs.Tail.{tag_start}
use Rattle.ape.specs.Tag.{find_footer, serialize}
use Rattle.ape.specs.Answers.{lent_fits, has_room}
use Rattle.ape_write.specs.Answers.{area_fits}
use Rattle.ape_replace.proofs.Cutting.{part-front}
use Rattle.tail_write.specs.Rewrite.{tagless, Tail, tail, tail_of, length_of}
use Rattle.tail_write.specs.Answers.{room_plan, rewrite_plan, rewrite_answer, rewrite_buffer, whole_answer, whole_buffer, Places}
use Rattle.tail_write.proofs.Placing.{here, place-tagged, places-as}
use Rattle.tail_write.specs.declared.Rewritten.TheVariants.{Done, Stopped}

-- a part of the front of a list is a part of the list
pub part-take : (from to n : ℕ) (s : List ℕ) → to ≤ n → part from to (take n s) ≡ part from to s
part-take from to n s h = part-front (take n s) from to ∙ ap (drop from) (take-take to n s h) ∙ sym (part-front s from to)

module _ (s : List ℕ) (ts : List Item) where
  -- no tag and no items: nothing is written
  pub tail_none : (tagless s && eqb (length ts) 0) ≡ true → tail_of s ts ≡ tail (length s) []
  unfolding tail_of
  tail_none e = rw e

  -- else the tag and what follows, at the places that the code answers
  module _ {tagged : Bool} {end from to : ℕ} (p : Places s tagged end from to) (e : (tagless s && eqb (length ts) 0) ≡ false) where
    pub tail_at : tail_of s ts ≡ tail end (serialize ts ++ part from to s)
    unfolding tail_of
    tail_at = rw (e, p.end_is, ← p.behind-is)

    pub tail-length : length_of (tail_of s ts) ≡ end + length (serialize ts) + (to - from)
    tail-length = ap length_of tail_at ∙ simp length-append (omega (arith, length_part from to s p.within))

  -- a tag in its place: from its start on the new tag, and what stands behind the footer
  pub tail-tagged : (f a : ℕ) → find_footer s ≡ Some f → tag_start s f ≡ Some a → tail_of s ts ≡ tail a (serialize ts ++ part (f + 32) (length s) s)
  tail-tagged f a at e =
      let p = places-as s (here s f at a e) (place-tagged s f at a e) in
      tail_at p (ap (λ (b : Bool). b && eqb (length ts) 0) p.tagged_is)

  -- ---- the plan

  module _ (room : ℕ) where
    pub plan-done : (t : Tail) → tail_of s ts ≡ t → length_of t ≤ room → length_of t ≤ 16777216 → room_plan s ts room ≡ yes t
    unfolding room_plan
    plan-done t e h k = rw (e, le-leb _ _ h, le-leb _ _ k)

    pub plan-short : room < length_of (tail_of s ts) → room_plan s ts room ≡ no NoRoom
    unfolding room_plan
    plan-short h = rw (lt-leb _ _ h)

    pub plan-long : length_of (tail_of s ts) ≤ room → 16777216 < length_of (tail_of s ts) → room_plan s ts room ≡ no NoRoom
    unfolding room_plan
    plan-long h k = rw (le-leb _ _ h, lt-leb _ _ k)

-- what is found, by the two places between which is written
pub found_as : (n k end new : ℕ) (t : Tail) → t.end ≡ end → length_of t ≡ new
    → Ok (cond (ltb (new - end) k) (Done end new) (Stopped end (max n (end + k)))) ≡ rewrite_answer n k (yes t)
found_as n k end new t e f =
    let d : new - end ≡ length t.bytes = omega arith in
    rw (d, ← f, ← e)

-- ---- all writes

module _ (buf : List ℕ) (n : ℕ) (area : List ℕ) (count : ℕ) where
  abbrev new : Tail
  new = tail_of (take n buf) (items_in count area)

  abbrev tests : List Test
  tests = lent_fits (take n buf) ∷ area_fits count area ∷ need NoRoom (has_room (length buf) (length_of new)) ∷ []

  fits : refusal_of tests ≡ None → (length_of new ≤ length buf) × (length_of new ≤ 16777216)
  fits o =
      let (a, b) = (and-eq-true_iff (leb (length_of new) (length buf)) (leb (length_of new) 16777216)).0 (passed tests o NoRoom (has_room (length buf) (length_of new)) refl) in
      (leb-true _ _ a, leb-true _ _ b)

  -- a plan that is carried out is that of a file in the buffer; it has room, and keeps the limit
  pub plan-fits : (t : Tail) → rewrite_plan buf n area count ≡ yes t → (n ≤ length buf) × (tail_of (take n buf) (items_in count area) ≡ t) × (length_of t ≤ length buf) × (length_of t ≤ 16777216)
  unfolding rewrite_plan
  plan-fits t e = go (leb n (length buf)) refl e
    where
      go : (b : Bool) → leb n (length buf) ≡ b → cond b (planned (refusal_of tests) new) (no NoRoom) ≡ yes t → (n ≤ length buf) × (new ≡ t) × (length_of t ≤ length buf) × (length_of t ≤ 16777216)
      go true b e = let (o, q) = done (refusal_of tests) new t e in (leb-true _ _ b, q, rw (← q) (fits o).0, rw (← q) (fits o).1)
      go false b e = absurd (let z : ◌≡◌ {A = ℕ} 0 1 = cc in omega arith)

-- with more writes than there are bytes all are written, and the length is set
module _ (n k : ℕ) where
  pub whole-answer : (p : Plan Tail) → ((t : Tail) → p ≡ yes t → length t.bytes < k) → rewrite_answer n k p ≡ whole_answer p
  whole-answer (no r) h = refl
  whole-answer (yes t) h = rw (lt-ltb _ _ (h t refl))

  pub whole-buffer : (p : Plan Tail) (buf : List ℕ) → ((t : Tail) → p ≡ yes t → length t.bytes < k) → rewrite_buffer k p buf ≡ whole_buffer p buf
  whole-buffer (no r) buf h = refl
  whole-buffer (yes t) buf h =
      let l : length t.bytes < k = h t refl in
      rw (take_all k t.bytes (omega arith), take-length t.bytes)
