-- Laws of `hex_byte` and `hex_bytes`.
use Prim.Native.Nat.{ℕ, suc, ◌+◌, ◌≤◌, ◌<◌, min}
use native.Mathlib.Numerals.{add-one}
use native.Mathlib.Nat.{zero-add}
use native.Mathlib.Omega.{arith}
use mathlib.Core.Path.{◌≡◌, refl, sym, ap, ◌∙◌}
use mathlib.Core.Bool.{Bool, true, false, not}
use mathlib.Core.List.{List, [], ◌∷◌}
use lib.ListN.{length, take, drop, get_or, set, length-drop, length-take, drop_of_length-le}
use lib.Seq.{drop-cons, drop-drop, take_all, take-take, paste, paste-suc}
use lib.Dec.{eqb}
use borrow.Author.Tests.{eqb-true, eq-eqb, ne_eqb, not-false}
use Rattle.lists.specs.Bytes.{same}
use Rattle.lists.specs.Write.{over}
use Rattle.std.specs.Prelude.{Option, None, Some}
use Rattle.std.specs.Option.{option_eq, is_some}
use Rattle.words.specs.Words.{digit, byte_of, hex_byte, hex_bytes}

pub too_short : (s : List ℕ) → length s < 2 → hex_byte s ≡ None
too_short [] h = refl
too_short (h ∷ []) l = refl
too_short (h ∷ l ∷ s) k = absurd (omega arith)

pub byte-there : (s : List ℕ) (at : ℕ) → at + 2 ≤ length s → hex_byte (drop at s) ≡ byte_of (digit (get_or s at 0)) (digit (get_or s (at + 1) 0))
byte-there s at h = rw (drop-cons s at 0 (omega arith), drop-cons s (suc at) 0 (omega arith), add-one)

pub long-enough : (s : List ℕ) {b : ℕ} → hex_byte s ≡ Some b → 2 ≤ length s
long-enough [] h = cc
long-enough (h ∷ []) k = cc
long-enough (h ∷ l ∷ s) k = omega arith

pub no_more : (s : List ℕ) → hex_byte s ≡ None → hex_bytes s ≡ []
unfolding hex_bytes
no_more [] h = refl
no_more (h ∷ []) k = refl
no_more (h ∷ l ∷ s) k = rw k

first_of : (s : List ℕ) {b : ℕ} → hex_byte s ≡ Some b → hex_bytes s ≡ b ∷ hex_bytes (drop 2 s)
unfolding hex_bytes
first_of [] h = cc
first_of (h ∷ []) k = cc
first_of (h ∷ l ∷ s) k = rw k

-- one turn of a loop at i
pub one_more : (s : List ℕ) (i : ℕ) {b : ℕ} → hex_byte (drop i s) ≡ Some b → hex_bytes (drop i s) ≡ b ∷ hex_bytes (drop (i + 2) s)
one_more s i h = first_of (drop i s) h ∙ rw drop-drop

-- ---- all bytes w, of which a loop has put the first n to the front of o

module _ (w : List ℕ) (n : ℕ) where
  -- b is the next, and what is left behind it
  pub next : (b : ℕ) (r : List ℕ) → drop n w ≡ b ∷ r → (n < length w) × (get_or w n 0 ≡ b) × (drop (n + 1) w ≡ r)
  next b r e =
      let h : n < length w = omega (arith, ap length e, length-drop n w) in
      let q : drop n w ≡ get_or w n 0 ∷ drop (suc n) w = drop-cons w n 0 h in
      (h, cc, rw add-one (cc))

  pub one-put : (o : List ℕ) → n < length o → n < length w → set (paste o 0 w n) n (get_or w n 0) ≡ paste o 0 w (n + 1)
  one-put o h l =
      ap (λ (k : ℕ). set (paste o 0 w n) k (get_or w n 0)) (sym (zero-add n)) ∙ paste-suc o 0 w n 0 (omega arith) l ∙ rw add-one

  pub all : n ≤ length w → drop n w ≡ [] → n ≡ length w
  all l e = omega (arith, ap length e, length-drop n w)

  -- as many as fit
  pub done : (o xs : List ℕ) → xs ≡ paste o 0 w n → n ≡ min (length o) (length w)
      → (n ≡ length (take (length o) w)) × (xs ≡ over (take (length o) w) o) × (n ≤ length o)
  done o xs e h =
      let t = take (length o) w in
      let m : length t ≡ n = length-take (length o) w ∙ sym h in
      let i : take n w ≡ t = sym (take-take n (length o) w (omega arith)) ∙ take_all n t (omega arith) in
      (sym m, e ∙ rw (zero-add, i, m), omega arith)

-- ---- a word held against bytes, at i and at n

module _ (x : Option ℕ) (b : ℕ) where
  pub same_byte : not (option_eq eqb x (Some b)) ≡ false → x ≡ Some b
  same_byte h = go x h
    where
      go : (x : Option ℕ) → not (option_eq eqb x (Some b)) ≡ false → x ≡ Some b
      go None h = cc
      go (Some a) h = ap Some (eqb-true a b (not-false _ h))

  pub other_byte : not (option_eq eqb x (Some b)) ≡ true → x ≡ Some b → ⊥
  other_byte h e =
      let f : not (option_eq eqb (Some b) (Some b)) ≡ true = rw e at h in
      let g : not true ≡ true = rw (eq-eqb b b refl) at f in
      cc

pub none_left : {t : Bool} (r : Bool) → t ≡ not r → r ≡ not t
none_left true e = rw e
none_left false e = rw e

module _ (s : List ℕ) (i : ℕ) (b : List ℕ) (n : ℕ) where
  pub same_turn : n < length b → hex_byte (drop i s) ≡ Some (get_or b n 0) → same (hex_bytes (drop i s)) (drop n b) ≡ same (hex_bytes (drop (i + 2) s)) (drop (n + 1) b)
  unfolding same
  same_turn l e = rw (one_more s i e, drop-cons b n 0 l, eq-eqb (get_or b n 0) (get_or b n 0) refl, add-one)

  pub same_not : n < length b → (hex_byte (drop i s) ≡ Some (get_or b n 0) → ⊥) → same (hex_bytes (drop i s)) (drop n b) ≡ false
  unfolding same
  same_not l e = go (hex_byte (drop i s)) refl
    where
      go : (x : Option ℕ) → hex_byte (drop i s) ≡ x → same (hex_bytes (drop i s)) (drop n b) ≡ false
      go None f = rw (no_more (drop i s) f, drop-cons b n 0 l)
      go (Some x) f = rw (one_more s i f, drop-cons b n 0 l, ne_eqb x (get_or b n 0) (λ g. e (f ∙ ap Some g)))

  pub same_end : length b ≤ n → same (hex_bytes (drop i s)) (drop n b) ≡ not (is_some (hex_byte (drop i s)))
  unfolding same
  same_end l = go (hex_byte (drop i s)) refl
    where
      go : (x : Option ℕ) → hex_byte (drop i s) ≡ x → same (hex_bytes (drop i s)) (drop n b) ≡ not (is_some x)
      go None f = rw (no_more (drop i s) f, drop_of_length-le b {i = n} l)
      go (Some x) f = rw (one_more s i f, drop_of_length-le b {i = n} l)
