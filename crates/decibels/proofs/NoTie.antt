-- The gain shift meets no tie: a step of 1505149978319906 units never leaves half a millionth, for steps in -255..255.
use Prim.Native.Nat.{ℕ, zero, suc, ◌+◌, ◌-◌, ◌*◌, ◌/◌, ◌%◌, ◌≤◌, ◌<◌}
use native.Mathlib.Omega.{arith}
use mathlib.Core.Path.{◌≡◌, refl, sym, ap, ◌∙◌}
use mathlib.Core.Logic.{◌≢◌}
use mathlib.Core.Bool.{Bool, true, false, not, ◌&&◌, and-eq-true_iff}
use lib.Dec.{leb, ltb, eqb}
use lib.IntN.{ℤ, pos, negsuc, neg_ℤ, nat_abs, ◌-ℤ◌, ◌*ℤ◌}
use borrow.Author.Tests.{ltb-true, ltb-false, eqb-false, not-true}
use Rattle.integers.proofs.Parts.{up, down, one-part, abs-parts, neg-up, neg-down, sum-parts}
use Rattle.number.specs.Reading.{with_sign}
use Rattle.decibels.specs.Gain.{units, exact, step_units, remaining, nearest}
use Rattle.decibels.specs.declared.Millionths.{Millionths}

-- ---- the computed test

unfoldable all_below : (ℕ → Bool) → ℕ → Bool
all_below p zero = true
all_below p (suc n) = p n && all_below p n

all-below : (p : ℕ → Bool) (n k : ℕ) → all_below p n ≡ true → k < n → p k ≡ true
unfolding all_below
all-below p zero k e h = absurd (omega arith)
all-below p (suc n) k e h =
    let (l, r) = (and-eq-true_iff (p n) (all_below p n)).0 e in
    go (ltb k n) refl l (all-below p n k r)
  where
    go : (t : Bool) → ltb k n ≡ t → p n ≡ true → (k < n → p k ≡ true) → p k ≡ true
    go true u l i = i (ltb-true k n u)
    go false u l i = let j : k ≡ n = omega (arith, ltb-false k n u) in rw j l

-- k steps do not leave half a millionth
tie_free : ℕ → Bool
tie_free k = not (eqb (k * 1505149978319906 % 1000000000) 500000000)

tested : all_below tie_free 256 ≡ true
unfolding all_below tie_free
tested = refl

-- the nearest comes within 1357838 units (at 23 steps): hundreds of times what f64 loses on 10^4 dB
far : ℕ → Bool
far k = let r = k * 1505149978319906 % 1000000000 in leb 1357838 (r - 500000000 + (500000000 - r))

far-tested : all_below far 256 ≡ true
unfolding all_below far
far-tested = refl

free-at : (k : ℕ) → k < 256 → k * 1505149978319906 % 1000000000 ≢ 500000000
unfolding tie_free
free-at k h = let x : ℕ = k * 1505149978319906 % 1000000000 in eqb-false x 500000000 (not-true (eqb x 500000000) (all-below tie_free 256 k tested h))

-- ---- what is left modulo a millionth

one-residue : (a b p q : ℕ) → a < 1000000000 → b < 1000000000 → a + 1000000000 * p ≡ b + 1000000000 * q → a ≡ b
one-residue a b p q h k e = omega arith

module _ (m b n : ℕ) (t : n % 1000000000 ≡ 500000000) where
  tie-sum : n ≡ m * 1000000000 + b → b % 1000000000 ≡ 500000000
  tie-sum e = one-residue (b % 1000000000) 500000000 (b / 1000000000 + m) (n / 1000000000) (omega arith) (omega arith) (omega arith)

  tie-over : n + b ≡ m * 1000000000 → b % 1000000000 ≡ 500000000
  tie-over e = one-residue (b % 1000000000) 500000000 (b / 1000000000 + n / 1000000000 + 1) m (omega arith) (omega arith) (omega arith)

  tie-under : n + m * 1000000000 ≡ b → b % 1000000000 ≡ 500000000
  tie-under e = one-residue (b % 1000000000) 500000000 (b / 1000000000) (n / 1000000000 + m) (omega arith) (omega arith) (omega arith)

module _ (m b : ℕ) where
  apart : (z : ℤ) → up z + b ≡ down z + m * 1000000000 → nat_abs z % 1000000000 ≡ 500000000 → b % 1000000000 ≡ 500000000
  apart (pos n) e t = tie-over m b n t (omega arith)
  apart (negsuc n) e t = tie-under m b (suc n) t (omega arith)

  apart' : (z : ℤ) → up z + m * 1000000000 ≡ down z + b → nat_abs z % 1000000000 ≡ 500000000 → b % 1000000000 ≡ 500000000
  apart' (pos n) e t = tie-under m b n t (omega arith)
  apart' (negsuc n) e t = tie-over m b (suc n) t (omega arith)

  together : (z : ℤ) → nat_abs z ≡ m * 1000000000 + b → nat_abs z % 1000000000 ≡ 500000000 → b % 1000000000 ≡ 500000000
  together z e t = tie-sum m b (nat_abs z) t e

-- ---- the law

-- the step's number of units, and the text's, by their signs
leaves-tie : (minus : Bool) (m : ℕ) (steps : ℤ) → nat_abs (with_sign minus (m * 1000000000) -ℤ steps *ℤ pos 1505149978319906) % 1000000000 ≡ 500000000
    → nat_abs steps * 1505149978319906 % 1000000000 ≡ 500000000
leaves-tie false m (pos k) t =
    let a : ℤ = pos (m * 1000000000) in
    let b : ℤ = pos (k * 1505149978319906) in
    apart m (k * 1505149978319906) (a -ℤ b) (omega (arith, sum-parts a (neg_ℤ b), neg-up b, neg-down b)) t
leaves-tie false m (negsuc k) t =
    let a : ℤ = pos (m * 1000000000) in
    let b : ℤ = neg_ℤ (pos (suc k * 1505149978319906)) in
    together m (suc k * 1505149978319906) (a -ℤ b)
    (omega (arith, abs-parts (a -ℤ b), one-part (a -ℤ b), sum-parts a (neg_ℤ b), neg-up b, neg-down b, neg-up (pos (suc k * 1505149978319906)), neg-down (pos (suc k * 1505149978319906))))
    t
leaves-tie true m (pos k) t =
    let a : ℤ = neg_ℤ (pos (m * 1000000000)) in
    let b : ℤ = pos (k * 1505149978319906) in
    together m (k * 1505149978319906) (a -ℤ b)
    (omega (arith, abs-parts (a -ℤ b), one-part (a -ℤ b), sum-parts a (neg_ℤ b), neg-up b, neg-down b, neg-up (pos (m * 1000000000)), neg-down (pos (m * 1000000000))))
    t
leaves-tie true m (negsuc k) t =
    let a : ℤ = neg_ℤ (pos (m * 1000000000)) in
    let b : ℤ = neg_ℤ (pos (suc k * 1505149978319906)) in
    apart' m (suc k * 1505149978319906) (a -ℤ b)
    (omega (arith, sum-parts a (neg_ℤ b), neg-up b, neg-down b, neg-up (pos (m * 1000000000)), neg-down (pos (m * 1000000000)), neg-up (pos (suc k * 1505149978319906)), neg-down (pos (suc k * 1505149978319906))))
    t

-- for a gain of whole millionths, as every text has
pub no_tie : (steps : ℤ) (g : Millionths) → nat_abs steps ≤ 255 → g.2 ≡ 0 → (remaining steps g).2 ≢ 500000000
unfolding remaining
no_tie steps g h w t =
    let e : units g ≡ g.1 * 1000000000 = omega arith in
    free-at (nat_abs steps) (omega arith) (leaves-tie g.0 g.1 steps (ap (λ (n : ℕ). nat_abs (with_sign g.0 n -ℤ step_units steps) % 1000000000) (sym e) ∙ t))

-- so the millionth written is the nearest, and no other is as near
pub nearest-strictly : (a : Millionths) → a.2 < 1000000000 → a.2 ≢ 500000000
    → (units a < (nearest a).1 * 1000000000 + 500000000) × ((nearest a).1 * 1000000000 < units a + 500000000)
unfolding nearest
nearest-strictly a h t = omega arith

-- ---- the sign is that of the exact difference, and an exact zero keeps the text's sign

module _ (steps : ℤ) (g : Millionths) where
  pub sign_zero : exact g -ℤ step_units steps ≡ pos 0 → (nearest (remaining steps g)).0 ≡ g.0
  unfolding nearest remaining
  sign_zero e = rw e

  pub sign-plus : (n : ℕ) → exact g -ℤ step_units steps ≡ pos (suc n) → (nearest (remaining steps g)).0 ≡ false
  unfolding nearest remaining
  sign-plus n e = rw e

  pub sign-minus : (n : ℕ) → exact g -ℤ step_units steps ≡ negsuc n → (nearest (remaining steps g)).0 ≡ true
  unfolding nearest remaining
  sign-minus n e = rw e
