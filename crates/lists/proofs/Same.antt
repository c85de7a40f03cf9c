-- Laws of `same` and `starts_with`: the tests decide what they say.
use Prim.Native.Nat.{ℕ, suc, ◌≤◌, ◌<◌}
use native.Mathlib.Nat.{le_of_suc-le-suc, not-suc-le-zero}
use mathlib.Core.Path.{◌≡◌, refl, ap}
use mathlib.Core.Bool.{Bool, true, false, ◌&&◌, and-eq-true_iff}
use mathlib.Core.List.{List, [], ◌∷◌, ◌++◌}
use lib.ListN.{length, take}
use lib.Pointwise.{pointwise}
use lib.Dec.{eqb}
use borrow.Author.Tests.{eq-eqb, eqb-true}
use Rattle.lists.specs.Bytes.{same, starts_with}

pub and-false : (t : Bool) → (t && false) ≡ false
and-false true = refl
and-false false = refl

-- ---- same

pub same_true : (a b : List ℕ) → same a b ≡ true → a ≡ b
unfolding same
same_true [] [] e = refl
same_true [] (y ∷ b) e = cc
same_true (x ∷ a) [] e = cc
same_true (x ∷ a) (y ∷ b) e =
    let (p, q) = (and-eq-true_iff (eqb x y) (same a b)).0 e in
    let h : x ≡ y = eqb-true x y p in
    let t : a ≡ b = same_true a b q in
    cc

pub same_refl : (a : List ℕ) → same a a ≡ true
unfolding same
same_refl [] = refl
same_refl (x ∷ a) = rw (eq-eqb x x refl) (same_refl a)

-- as std has it
pub same-is : (a b : List ℕ) → pointwise eqb a b ≡ same a b
unfolding same
same-is [] [] = refl
same-is [] (y ∷ b) = refl
same-is (x ∷ a) [] = refl
same-is (x ∷ a) (y ∷ b) = ap (λ t. eqb x y && t) (same-is a b)

-- lists of two lengths differ
pub same-unequal : (a b : List ℕ) → (length a ≡ length b → ⊥) → same a b ≡ false
unfolding same
same-unequal [] [] h = absurd (h refl)
same-unequal [] (y ∷ b) h = refl
same-unequal (x ∷ a) [] h = refl
same-unequal (x ∷ a) (y ∷ b) h = rw (same-unequal a b (λ e. h (ap suc e))) (and-false (eqb x y))

-- ---- starts_with

-- as std has it: what stands at the front of s, as far as p is long, is p
pub starts-is : (p s : List ℕ) → pointwise eqb p (take (length p) s) ≡ starts_with p s
unfolding starts_with
starts-is [] s = refl
starts-is (x ∷ p) [] = refl
starts-is (x ∷ p) (y ∷ s) = ap (λ t. eqb x y && t) (starts-is p s)

-- a text longer than s does not stand there
pub starts-long : (p s : List ℕ) → length s < length p → starts_with p s ≡ false
unfolding starts_with
starts-long [] s h = absurd (not-suc-le-zero h)
starts-long (x ∷ p) [] h = refl
starts-long (x ∷ p) (y ∷ s) h = rw (starts-long p s (le_of_suc-le-suc h)) (and-false (eqb x y))

-- a text that fits into a does not see what follows a
pub starts-append : (p a b : List ℕ) → length p ≤ length a → starts_with p (a ++ b) ≡ starts_with p a
unfolding starts_with
starts-append [] a b h = refl
starts-append (x ∷ p) [] b h = absurd (not-suc-le-zero h)
starts-append (x ∷ p) (y ∷ a) b h = ap (λ t. eqb x y && t) (starts-append p a b (le_of_suc-le-suc h))
