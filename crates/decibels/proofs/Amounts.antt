-- Laws of amounts: differences by their signs, in millionths and what is left of one.
use Prim.Native.Nat.{ℕ, zero, suc, ◌+◌, ◌*◌, ◌/◌, ◌%◌, ◌<◌}
use native.Mathlib.Omega.{arith}
use mathlib.Core.Path.{◌≡◌, refl, sym, ap, ◌∙◌}
use mathlib.Core.Bool.{Bool, true, false, not, beq}
use lib.IntN.{ℤ, pos, negsuc, nat_abs, ◌-ℤ◌, ◌*ℤ◌}
use Rattle.integers.proofs.Parts.{up, down, neg-up, neg-down}
use Rattle.number.specs.Reading.{with_sign}
use Rattle.decimal.specs.Writing.{is_negative}
use Rattle.number.proofs.Signs.{differ}
use Rattle.decibels.specs.Gain.{amount, sign_or, steps_to_db, step_units, exact}
use Rattle.decibels.specs.declared.Millionths.{Millionths}

-- the parts of a number with a sign
up-sign : (n : ℕ) → (up (with_sign true n) ≡ 0) × (down (with_sign true n) ≡ n)
up-sign n = (neg-up (pos n), neg-down (pos n))

-- ---- differences

module _ (x y : ℕ) where
  pub other_sign : (minus : Bool) → with_sign minus x -ℤ with_sign (not minus) y ≡ with_sign minus (x + y)
  other_sign true = differ (with_sign true x) (pos y) (with_sign true (x + y)) (omega (arith, up-sign x, up-sign (x + y)))
  other_sign false = differ (pos x) (with_sign true y) (pos (x + y)) (omega (arith, up-sign y))

-- ---- two signs compared

pub same-sign : (a b : Bool) → beq a b ≡ true → b ≡ a
same-sign true true e = refl
same-sign true false e = cc
same-sign false true e = cc
same-sign false false e = refl

pub not-same-sign : (a b : Bool) → beq a b ≡ false → b ≡ not a
not-same-sign true true e = cc
not-same-sign true false e = refl
not-same-sign false true e = refl
not-same-sign false false e = cc

-- ---- amounts by their sign and size

abs-sign : (minus : Bool) (n : ℕ) → nat_abs (with_sign minus n) ≡ n
abs-sign true zero = refl
abs-sign true (suc n) = refl
abs-sign false n = refl

keeps : (minus : Bool) (n : ℕ) → sign_or minus (with_sign minus n) ≡ minus
keeps true zero = refl
keeps true (suc n) = refl
keeps false zero = refl
keeps false (suc n) = refl

crosses : (minus : Bool) (n : ℕ) → 0 < n → sign_or minus (with_sign (not minus) n) ≡ not minus
crosses minus zero h = absurd (omega arith)
crosses true (suc n) h = refl
crosses false (suc n) h = refl

-- n units are w millionths and f units more
pub record Cut (n w f : ℕ) : Type 0 where
  pub sum : n ≡ w * 1000000000 + f
  pub small : f < 1000000000

cut : {n w f : ℕ} → Cut n w f → (n / 1000000000 ≡ w) × (n % 1000000000 ≡ f)
cut {n} {w} {f} c = (omega (arith, c.sum, c.small), omega (arith, c.sum, c.small))

pub keep-amount : (minus : Bool) (z : ℤ) (n w f : ℕ) → z ≡ with_sign minus n → Cut n w f → ◌≡◌ {A = Millionths} (record { 0 = minus; 1 = w; 2 = f }) (amount minus z)
keep-amount minus z n w f e c = rw (e, keeps minus n, abs-sign minus n, (cut c).0, (cut c).1)

pub cross-amount : (minus : Bool) (z : ℤ) (n w f : ℕ) → z ≡ with_sign (not minus) n → 0 < n → Cut n w f → ◌≡◌ {A = Millionths} (record { 0 = not minus; 1 = w; 2 = f }) (amount minus z)
cross-amount minus z n w f e h c = rw (e, crosses minus n h, abs-sign (not minus) n, (cut c).0, (cut c).1)

-- ---- steps

steps-signed : (z : ℤ) → z *ℤ pos 1505149978319906 ≡ with_sign (is_negative z) (nat_abs z * 1505149978319906)
steps-signed (pos n) = refl
steps-signed (negsuc n) = refl

fine-cut : (n : ℕ) → Cut (n * 1505149978319906) (n * 1505149 + n * 978319906 / 1000000000) (n * 978319906 % 1000000000)
fine-cut n = record { sum = omega arith; small = omega arith }

-- a number of steps by its sign and size
pub steps-amount : (z : ℤ) (n : ℕ) → n ≡ nat_abs z
    → ◌≡◌ {A = Millionths} (record { 0 = is_negative z; 1 = n * 1505149 + n * 978319906 / 1000000000; 2 = n * 978319906 % 1000000000 }) (steps_to_db z)
unfolding steps_to_db
steps-amount (pos m) n e = keep-amount false (pos m *ℤ pos 1505149978319906) (n * 1505149978319906) _ _ (steps-signed (pos m) ∙ ap (λ k. pos (k * 1505149978319906)) (sym e)) (fine-cut n)
steps-amount (negsuc m) n e = cross-amount false (negsuc m *ℤ pos 1505149978319906) (n * 1505149978319906) _ _ (steps-signed (negsuc m) ∙ ap (λ k. with_sign true (k * 1505149978319906)) (sym e)) (omega arith) (fine-cut n)

-- steps as decibels are exactly the steps
pub steps-exact : (z : ℤ) → exact (steps_to_db z) ≡ step_units z
unfolding steps_to_db
steps-exact z =
    let n = nat_abs z in
    ap exact (sym (steps-amount z n refl)) ∙ ap (with_sign (is_negative z)) (sym (fine-cut n).sum) ∙ sym (steps-signed z)
