-- Laws of a list of which two parts are written in turn. Assumes nothing.
use mathlib.Core.Path.{◌≡◌, refl, sym, ap, ◌∙◌}
use mathlib.Core.List.{List, ◌++◌, append_assoc}
use Prim.Native.Nat.{ℕ, ◌+◌, ◌-◌, ◌≤◌}
use native.Mathlib.Nat.{add_assoc}
use native.Mathlib.Omega.{arith}
use lib.ListN.{length, take, drop, length-append, length-drop}
use lib.Seq.{take-add, take-append-le, take-append-add, take-take, drop_at, drop-drop, drop-append-add, length-take-le}
use Rattle.lists.specs.Write.{splice, part}
use Rattle.lists.proofs.Places.{length_part}
use Rattle.lists.proofs.Wrote.{Wrote, start, next-part}

-- THE law: of two parts that are written one before the other, either may be written first
pub apart : (out p b : List ℕ) (at d : ℕ) → at + length p + d ≤ length out → splice (splice out (at + length p + d) b) at p ≡ splice (splice out at p) (at + length p + d) b
apart out p b at d h =
    let m = at + length p in
    let new = take at out ++ p in
    let gap = take d (drop m out) in
    let end = drop (m + d + length b) out in
    let long : length (take m out) ≡ m = length-take-le m out (omega arith) in
    let full : length new ≡ m = simp length-append (omega (arith, length-take-le at out (omega arith))) in
    let whole : splice out (m + d) b ≡ take m out ++ (gap ++ (b ++ end)) = rw (take-add m d out) (simp append_assoc) in
    let front : take at (splice out (m + d) b) ≡ take at out = ap (take at) whole ∙ take-append-le at (take m out) _ (omega (arith, long)) ∙ take-take at m out (omega arith) in
    let back : drop m (splice out (m + d) b) ≡ gap ++ (b ++ end) = ap (drop m) whole ∙ drop_at (take m out) _ m long in
    let front-2 : take (m + d) (new ++ drop m out) ≡ new ++ gap = ap (λ (n : ℕ). take (n + d) (new ++ drop m out)) (sym full) ∙ take-append-add new (drop m out) d in
    let behind : m + d + length b ≡ length new + (d + length b) = omega (arith, full) in
    let back-2 : drop (m + d + length b) (new ++ drop m out) ≡ end =
    ap (λ (n : ℕ). drop n (new ++ drop m out)) behind ∙ drop-append-add new (drop m out) (d + length b) ∙ drop-drop (d + length b) m out ∙ ap (λ (n : ℕ). drop n out) (sym (add_assoc m d (length b))) in
    rw (front, back, front-2, back-2) (simp append_assoc)

-- what is written into a list within its length leaves its length
pub length-splice : (out : List ℕ) (at : ℕ) (w : List ℕ) → at + length w ≤ length out → length (splice out at w) ≡ length out
length-splice out at w h = simp (length-append, length-drop) (omega (arith, length-take-le at out (omega arith)))

-- out with the first i bytes of s written from at, and those from h written h behind them
abbrev pub halves : List ℕ → ℕ → List ℕ → ℕ → ℕ → List ℕ
halves out at s h i = splice (splice out at (take i s)) (at + h) (take i (drop h s))

module _ (out : List ℕ) (at : ℕ) (s : List ℕ) (h : ℕ) (room : at + length s ≤ length out) (two : h + h ≤ length s) where
  -- nothing is written yet
  pub none : halves out at s h 0 ≡ out
  none = sym ((start out at (omega arith)).is ∙ (start (splice out at (take 0 s)) (at + h) (omega (arith, length-splice out at (take 0 s) (omega arith)))).is)

  -- the first i bytes of s are written
  first : (i : ℕ) → i ≤ length s → Wrote out at (take i s) (at + i) (splice out at (take i s))
  first i l = record { room = omega arith; ends = omega (arith, length-take-le i s l); is = refl }

  -- one more part of each half is written
  pub turn : (i n : ℕ) {x y z : List ℕ} → i + n ≤ h → x ≡ halves out at s h i → y ≡ splice x (at + i) (part i (i + n) s) → z ≡ splice y (at + (h + i)) (part (h + i) (h + i + n) s)
      → z ≡ halves out at s h (i + n)
  turn i n {x} {y} {z} l e f g =
      let j = i + n in
      let p = part i j s in
      let b = take i (drop h s) in
      let a = splice out at (take i s) in
      let long-p : length p ≡ j - i = length_part i j s (omega arith) in
      let long-a : length a ≡ length out = length-splice out at (take i s) (omega (arith, length-take-le i s (omega arith))) in
      let place : at + i + length p + (h - j) ≡ at + h = omega arith in
      let swapped : splice (splice a (at + h) b) (at + i) p ≡ splice (splice a (at + i) p) (at + h) b =
      ap (λ (m : ℕ). splice (splice a m b) (at + i) p) (sym place) ∙ apart a p b (at + i) (h - j) (omega arith) ∙ ap (λ (m : ℕ). splice (splice a (at + i) p) m b) place in
      let one : splice a (at + i) p ≡ splice out at (take j s) = (next-part s i j (omega arith) (first i (omega arith)) (refl, refl)).is in
      let front : y ≡ splice (splice out at (take j s)) (at + h) b = f ∙ ap (λ (w : List ℕ). splice w (at + i) p) e ∙ swapped ∙ ap (λ (w : List ℕ). splice w (at + h) b) one in
      let size : h + i + n - (h + i) ≡ j - i = omega arith in
      let same : part (h + i) (h + i + n) s ≡ part i j (drop h s) = rw (drop-drop, size) in
      let long-b : length b ≡ i = length-take-le i (drop h s) (omega (arith, length-drop h s)) in
      let long-j = length-splice out at (take j s) (omega (arith, length-take-le j s (omega arith))) in
      let w : Wrote (splice out at (take j s)) (at + h) b (at + (h + i)) y = record { room = omega (arith, long-j); ends = omega (arith, long-b); is = front } in
      (next-part (drop h s) i j (omega arith) w (refl, g ∙ ap (splice y (at + (h + i))) same)).is

  -- both halves are written
  pub whole : halves out at s h h ≡ splice out at (take (h + h) s)
  whole =
      let size : h ≡ h + h - h = omega arith in
      ap (λ (n : ℕ). splice (splice out at (take h s)) (at + h) (take n (drop h s))) size ∙ (next-part s h (h + h) (omega arith) (first h (omega arith)) (refl, refl)).is
