-- Laws of parts that are written one after another. Assumes nothing.
use mathlib.Core.Path.{◌≡◌, refl, sym, ap, ◌∙◌}
use mathlib.Core.List.{List, [], ◌++◌, append_assoc, append-nil}
use Prim.Native.Nat.{ℕ, ◌+◌, ◌-◌, ◌≤◌}
use native.Mathlib.Nat.{add_assoc, zero-add, add-zero}
use native.Mathlib.Omega.{arith}
use lib.ListN.{length, take, drop, length-append, length-drop, take-append-drop, drop_of_length-le}
use lib.Seq.{take-add, take_at, take_all, take-append-le, take-take, drop_at, drop-drop, drop-append-add, length-take-le}
use Rattle.lists.specs.Write.{over, splice, part}

-- xs is out with w written into it from at to k. A record, so that antt finds the lists at each use
pub record Wrote (out : List ℕ) (at : ℕ) (w : List ℕ) (k : ℕ) (xs : List ℕ) : Type 0 where
  pub room : at ≤ length out
  pub ends : k ≡ at + length w
  pub is : xs ≡ splice out at w

-- nothing is written yet
pub start : (out : List ℕ) (at : ℕ) → at ≤ length out → Wrote out at [] at out
start out at h = record { room = h; ends = omega arith; is = sym (rw (append-nil, add-zero, take-append-drop)) }

-- THE law: p was written where w ends
pub next : {out xs ys w : List ℕ} {at k r : ℕ} → Wrote out at w k xs → (p : List ℕ) → (r ≡ k + length p) × (ys ≡ splice xs k p) → Wrote out at (w ++ p) r ys
next {out} {xs} {ys} {w} {at} {k} {r} x p y =
    let fits : at ≤ length out = x.room in
    let head : length (take at out ++ w) ≡ k = simp (length-append, length-take-le) (omega arith) in
    let front : take k xs ≡ take at out ++ w = rw x.is (take_at _ _ k head) in
    let back : drop (k + length p) xs ≡ drop (at + length (w ++ p)) out = rw (x.is, ← head, drop-append-add, drop-drop, length-append, add_assoc) in
    record { room = fits; ends = simp length-append (omega arith); is = y.1 ∙ rw (front, back) (simp append_assoc) }

-- the other way round: p was written where w begins, up to it
pub ahead : {out xs ys w : List ℕ} {at m k : ℕ} → Wrote out m w k xs → (p : List ℕ) → at + length p ≡ m → ys ≡ splice xs at p → Wrote out at (p ++ w) k ys
ahead {out} {xs} {ys} {w} {at} {m} {k} x p e y =
    let fits : m ≤ length out = x.room in
    let long : length (take m out) ≡ m = length-take-le m out fits in
    let front : take at xs ≡ take at out =
    rw x.is (rw append_assoc (take-append-le at (take m out) (w ++ drop (m + length w) out) (omega arith) ∙ take-take at m out (omega arith))) in
    let back : drop (at + length p) xs ≡ w ++ drop (at + length (p ++ w)) out =
    let i : at + length (p ++ w) ≡ m + length w = simp length-append (omega arith) in
    rw (e, x.is, i) (rw append_assoc (drop_at (take m out) (w ++ drop (m + length w) out) m long)) in
    record { room = omega arith; ends = simp length-append (omega (arith, x.ends)); is = y ∙ rw (front, back) (simp append_assoc) }

-- what a function that writes from at ensures
pub done : {out xs w : List ℕ} {at k : ℕ} → Wrote out at w k xs → (k ≡ at + length w) × (xs ≡ splice out at w)
done x = (x.ends, x.is)

-- what a function that writes from the start ensures
pub from_start : {w out xs : List ℕ} {k : ℕ} → Wrote out 0 w k xs → xs ≡ over w out
from_start x = x.is ∙ rw zero-add

-- writing from 0 is writing at the front
pub at_front : (out w : List ℕ) → splice out 0 w ≡ over w out
at_front out w = rw zero-add

pub first : (out w : List ℕ) {xs : List ℕ} → xs ≡ over w out → Wrote out 0 w (length w) xs
first out w e = record { room = omega arith; ends = omega arith; is = e ∙ sym (at_front out w) }

-- ---- the rest of an output, lent to a callee as `&mut out[at..]`, and what came back

module _ (out : List ℕ) (at : ℕ) where
  -- the rest, as the callee gets it
  pub rest : take (length out - at) (drop at out) ≡ drop at out
  rest = take_all (length out - at) (drop at out) (rw length-drop (omega arith))

  pub length_rest : length (take (length out - at) (drop at out)) ≡ length out - at
  length_rest = ap length rest ∙ length-drop at out

  -- a callee that writes w to the front of the rest has written w from at
  pub home : (w ys : List ℕ) → ys ≡ over w (take (length out - at) (drop at out)) → take at out ++ (ys ++ drop (length out - at) (drop at out)) ≡ splice out at w
  home w ys e =
      let y : ys ≡ w ++ drop (at + length w) out = e ∙ rw (rest, drop-drop) in
      let n : drop (length out - at) (drop at out) ≡ [] = drop_of_length-le (drop at out) {i = length out - at} (rw length-drop (omega arith)) in
      rw (y, n, append-nil) (simp append_assoc)

-- p was written to the front of the rest that begins where w ends
pub into-rest : {out xs w : List ℕ} {k : ℕ} → Wrote out 0 w k xs → (p ys : List ℕ) → ys ≡ over p (take (length xs - k) (drop k xs))
    → Wrote out 0 (w ++ p) (k + length p) (take k xs ++ (ys ++ drop (length xs - k) (drop k xs)))
into-rest {out} {xs} {w} {k} x p ys e = next x p (refl, home xs k p ys e)

-- ---- a list written part by part

module _ (s : List ℕ) (i j : ℕ) (order : i ≤ j) where
  -- what stands before i, and then what stands before j
  pub take_part : take i s ++ part i j s ≡ take j s
  take_part =
      let e : i + (j - i) ≡ j = omega (arith, order) in
      sym (take-add i (j - i) s) ∙ ap (λ (n : ℕ). take n s) e

  -- s was written up to i, and now up to j
  pub next-part : {out xs ys : List ℕ} {at k r : ℕ} → Wrote out at (take i s) k xs → (r ≡ k + length (part i j s)) × (ys ≡ splice xs k (part i j s))
      → Wrote out at (take j s) r ys
  next-part {out} {xs} {ys} {at} {k} {r} x y =
      let w : Wrote out at (take i s ++ part i j s) r ys = next x (part i j s) y in
      record { room = w.room; ends = w.ends ∙ ap (λ (l : List ℕ). at + length l) take_part; is = w.is ∙ ap (splice out at) take_part }

-- what is as long as what it is written over takes its place
pub splice_all : (b w : List ℕ) → length b ≡ length w → splice b 0 w ≡ w
splice_all b w e = rw (zero-add, drop_of_length-le b {i = length w} (omega (arith, e))) (append-nil w)
