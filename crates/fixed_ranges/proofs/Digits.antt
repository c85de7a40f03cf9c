-- Laws of the digits with which a text begins.
use Prim.Native.Nat.{ℕ, min, ◌+◌, ◌≤◌, ◌<◌}
use native.Mathlib.Omega.{arith}
use native.Mathlib.Numerals.{one-add}
use mathlib.Core.Path.{◌≡◌, refl, sym, ap, ◌∙◌}
use mathlib.Core.Bool.{Bool, true, false, cond, not}
use Rattle.std.specs.Prelude.{None, unwrap_or, position}
use Rattle.std.specs.List.{position_or_len}
use mathlib.Core.List.{List, [], ◌∷◌}
use lib.ListN.{length, take, drop_of_length-le, length-take}
use lib.Seq.{take_all, take-length}
use borrow.Author.Tests.{leb-true, leb-false}
use lib.Dec.{leb}
use Rattle.lists.specs.Choice.{provided}
use Rattle.number.specs.Reading.{is_digit, natural}
use Rattle.number.proofs.Digits.{natural-fits}
use Rattle.fixed_ranges.specs.Fixed.{digits_of, leading, three}
use Rattle.number.proofs.Spaces.{found_first}

-- how many digits stand at the front
abbrev pub size : List ℕ → ℕ
size s = position_or_len (λ x. not (is_digit x)) s

take-digits : (s : List ℕ) → take (size s) s ≡ digits_of s
unfolding digits_of
take-digits [] = refl
take-digits (x ∷ s) = go (is_digit x) (take-digits s)
  where
    go : (t : Bool) → take (size s) s ≡ digits_of s → take (cond (not (not t)) (1 + size s) 0) (x ∷ s) ≡ cond t (x ∷ digits_of s) []
    go true i = rw one-add (ap (λ r. x ∷ r) i)
    go false i = refl

-- ---- as code reads them

pub digits-at : (s : List ℕ) (r : ℕ) → r ≡ unwrap_or (position (λ x. not (is_digit x)) s) (length s) → (r ≤ length s) × (take r s ≡ digits_of s)
digits-at s r e =
    let f = found_first (λ x. not (is_digit x)) s in
    let k : r ≡ size s = e ∙ f.0 in
    (omega (arith, k, f.1), ap (λ (n : ℕ). take n s) k ∙ take-digits s)

length_digits : (s : List ℕ) (n : ℕ) → take n s ≡ digits_of s → length (digits_of s) ≤ length s
length_digits s n e = rw (← e, length-take) (omega arith)

pub leading-read : (s : List ℕ) (n : ℕ) → take n s ≡ digits_of s → length s ≤ 3 → provided (λ k. leb k 999) (natural (take n s)) ≡ leading s
unfolding leading
leading-read s n e h = rw e (natural-fits (digits_of s) 3 999 (omega (arith, length_digits s n e)) (omega arith))

pub none-there : (s : List ℕ) (at : ℕ) → length s < at → leading (three at s) ≡ None
unfolding leading digits_of natural
none-there s at h = let l : length s ≤ at = omega arith in rw (drop_of_length-le s l)

-- the first three bytes, or all where there are fewer
pub up_to_three : (t : List ℕ) → take (min (length t) 3) t ≡ take 3 t
up_to_three t = go (leb (length t) 3) refl
  where
    go : (b : Bool) → leb (length t) 3 ≡ b → take (min (length t) 3) t ≡ take 3 t
    go true e =
        let h : length t ≤ 3 = leb-true (length t) 3 e in
        let k : min (length t) 3 ≡ length t = omega arith in
        ap (λ (n : ℕ). take n t) k ∙ take-length t ∙ sym (take_all 3 t h)
    go false e = let k : min (length t) 3 ≡ 3 = omega (arith, leb-false (length t) 3 e) in ap (λ (n : ℕ). take n t) k
