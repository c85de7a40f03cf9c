-- Laws of `comments`: one for each turn of a loop at i.
use Rattle.std.proofs.Common.{◌≡◌, ℕ, suc, ◌+◌, ◌<◌, ◌≤◌, Bool, true, false, not, eqb, List, [], length, get_or, drop, refl, add-one, drop_of_length-le, drop-cons, eq-eqb, ne_eqb}
use Rattle.vectors.specs.Lines.{comments}

none_left : (within : Bool) → comments within [] ≡ 0
unfolding comments
none_left true = refl
none_left false = refl

module _ (s : List ℕ) (i : ℕ) where
  pub at-end : (within : Bool) → length s ≤ i → comments within (drop i s) ≡ 0
  at-end within h = rw (drop_of_length-le s {i = i} h) (none_left within)

  pub within-one : i < length s → comments true (drop i s) ≡ suc (comments (not (eqb (get_or s i 0) 10)) (drop (i + 1) s))
  unfolding comments
  within-one h = rw (drop-cons s i 0 h, add-one)

  pub begins : i < length s → get_or s i 0 ≡ 35 → comments false (drop i s) ≡ suc (comments true (drop (i + 1) s))
  unfolding comments
  begins h e = rw (drop-cons s i 0 h, eq-eqb (get_or s i 0) 35 e, add-one)

  pub answer : i < length s → (get_or s i 0 ≡ 35 → ⊥) → comments false (drop i s) ≡ 0
  unfolding comments
  answer h e = rw (drop-cons s i 0 h, ne_eqb (get_or s i 0) 35 e)
