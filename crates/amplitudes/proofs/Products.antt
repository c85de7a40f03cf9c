-- The product of a constant and a power of two has the constant's bits, with the exponent moved, at every step.
use Prim.Native.Nat.{ℕ, zero, suc, ◌+◌, ◌-◌, ◌*◌, ◌/◌, ◌%◌, ◌^◌, ◌≤◌, ◌<◌}
use native.Mathlib.Omega.{arith}
use mathlib.Core.Path.{◌≡◌, refl, sym, ap, ◌∙◌}
use mathlib.Core.Bool.{Bool, true, false, not, ◌&&◌, and-eq-true_iff}
use mathlib.Core.List.{[], ◌∷◌}
use lib.ListN.{get_or}
use lib.Dec.{T, eqb}
use lib.IntN.{ℤ, pos, negsuc, neg_ℤ, nat_abs, ◌+ℤ◌, ◌*ℤ◌}
use lib.Ieee.{Float, nan, inf, fin, binary64, up, down, mul, fits, of_bits, to_bits, nan_bits}
use lib.Ieee.Bits.{of_bits-to_bits, nan_bits_above}
use lib.Ieee.Exact.{HasValue}
use mir.Syntax.{w32}
use mir.Val.{SFits}
use denote.Floats.{passes}
use borrow.Author.Tests.{leb-true, eqb-true, le-ltb}
use Rattle.keys.proofs.Lists.{all_below, below}
use Rattle.std.specs.Int.{int_rem_euclid}
use Rattle.integers.proofs.Parts.{neg-up, neg-down}
use Rattle.number.proofs.Signs.{total}
use Rattle.slip.specs.Slip.{is_step}
use Rattle.amplitudes.proofs.Roots.{nearest-root, one-root}
use Rattle.amplitudes.specs.Amplitude.{root, bits, constant, quarter, rest, power, amplitude, moved, Exact, Claims}

-- a test that holds at every step holds at each
over : (p : ℤ → Bool) → all_below (λ n. p (pos n)) 256 ≡ true → all_below (λ n. p (negsuc n)) 255 ≡ true → (s : ℤ) → is_step s ≡ true → p s ≡ true
over p u d (pos n) h = below (λ n. p (pos n)) 256 u n (omega (arith, leb-true n 255 h))
over p u d (negsuc n) h = below (λ n. p (negsuc n)) 255 d n (omega (arith, leb-true (suc n) 255 h))

-- ---- the product: its bits and its value

-- `HasValue` as a test
abbrev is : Float → ℕ → ℕ → Bool
is nan a c = false
is (inf t) a c = false
is (fin t m e) a c = not t && eqb (m * up e * c) (a * down e)

value : (x : Float) (a c : ℕ) → is x a c ≡ true → HasValue x false a c
value nan a c e = absurd (let z : ◌≡◌ {A = ℕ} 0 1 = cc in omega arith)
value (inf t) a c e = absurd (let z : ◌≡◌ {A = ℕ} 0 1 = cc in omega arith)
value (fin true m d) a c e = absurd (let z : ◌≡◌ {A = ℕ} 0 1 = cc in omega arith)
value (fin false m d) a c e = (refl, eqb-true _ _ e)

abbrev has-bits : ℤ → Float → Bool
has-bits s x = eqb (to_bits binary64 x) (moved (quarter s) (bits (root (rest s))))

abbrev has_value : ℤ → Float → Bool
has_value s x = is x (root (rest s) * up (quarter s)) (2 ^ 52 * down (quarter s))

moves : ℤ → Bool
unfolding amplitude mul of_bits to_bits
moves s = has-bits s (amplitude s) && has_value s (amplitude s)

moves-up : all_below (λ n. moves (pos n)) 256 ≡ true
unfolding moves
moves-up = refl

moves-down : all_below (λ n. moves (negsuc n)) 255 ≡ true
unfolding moves
moves-down = refl

rest_below : (s : ℤ) → rest s < 4
rest_below (pos n) = omega arith
rest_below (negsuc n) = omega arith

divided : (s : ℤ) → pos 4 *ℤ quarter s +ℤ pos (rest s) ≡ s
divided (pos n) = let e : 4 * (n / 4) + n % 4 ≡ n = omega arith in ap pos e
divided (negsuc n) =
    let times = pos (4 * suc (n / 4)) in
    total (neg_ℤ times) (pos (3 - n % 4)) (negsuc n) (omega (arith, neg-up times, neg-down times))

exact : (s : ℤ) → is_step s ≡ true → Exact s
unfolding moves
exact s h =
    let (b, v) = (and-eq-true_iff (has-bits s (amplitude s)) (has_value s (amplitude s))).0 (over moves moves-up moves-down s h) in
    record { divided = divided s; four = rest_below s; exponent-moved = eqb-true _ _ b; value = value (amplitude s) _ _ v }

one : amplitude (pos 0) ≡ fin false 1 (pos 0)
unfolding amplitude mul of_bits
one = refl

-- all that is claimed
pub claims : Claims
claims = record { nearest = nearest-root; only = λ k m h x. one-root x (nearest-root k h); exact = exact; zero-steps = one }

-- ---- as the code makes it

-- the field of the exponent of the power
abbrev field : ℤ → ℕ
field (pos n) = 1023 + n / 4
field (negsuc n) = 1022 - n / 4

plain : ℤ → Bool
unfolding to_bits fits
plain s = eqb (to_bits binary64 (power (quarter s))) (field s * 4503599627370496) && fits binary64 (power (quarter s))

plain-up : all_below (λ n. plain (pos n)) 256 ≡ true
unfolding plain
plain-up = refl

plain_down : all_below (λ n. plain (negsuc n)) 255 ≡ true
unfolding plain
plain_down = refl

power-is : (s : ℤ) → is_step s ≡ true → of_bits binary64 (field s * 4503599627370496) ≡ power (quarter s)
unfolding plain
power-is s h =
    let (a, b) = (and-eq-true_iff (eqb (to_bits binary64 (power (quarter s))) (field s * 4503599627370496)) (fits binary64 (power (quarter s)))).0 (over plain plain-up plain_down s h) in
    ap (of_bits binary64) (sym (eqb-true _ _ a)) ∙ of_bits-to_bits binary64 (power (quarter s)) (passes _ b)

made : (s : ℤ) → is_step s ≡ true → mul binary64 (constant (rest s)) (of_bits binary64 (field s * 4503599627370496)) ≡ amplitude s
unfolding amplitude
made s h = rw (power-is s h)

-- a power's bits are below those of the infinity, so no NaN's
pub not-nan : (f : ℕ) → f < 2047 → T (not (nan_bits binary64 (f * 4503599627370496)))
not-nan f h =
    let small : f * 4503599627370496 % 9223372036854775808 ≤ 9218868437227405312 = omega arith in
    let e : nan_bits binary64 (f * 4503599627370496) ≡ false = nan_bits_above binary64 (f * 4503599627370496) ∙ le-ltb _ _ small in
    passes _ (ap not e)

-- a constant by its place in the table of the code
pub constant-at : (k : ℕ) → k < 4 → get_or (of_bits binary64 4607182418800017408 ∷ of_bits binary64 4608034531892639509 ∷ of_bits binary64 4609047870845172685 ∷ of_bits binary64 4610252940737434541 ∷ []) k nan ≡ constant k
constant-at zero h = refl
constant-at (suc zero) h = refl
constant-at (suc (suc zero)) h = refl
constant-at (suc (suc (suc zero))) h = refl
constant-at (suc (suc (suc (suc k)))) h = absurd (omega arith)

-- ---- the steps divided by 4, as the code divides them

rest-is : (z : ℤ) → int_rem_euclid z (pos 4) ≡ pos (rest z)
rest-is (pos n) = refl
rest-is (negsuc n) = refl

field-is : (z : ℤ) → is_step z ≡ true → pos 1023 +ℤ quarter z ≡ pos (field z)
field-is (pos n) h = refl
field-is (negsuc n) h = total (pos 1023) (negsuc (n / 4)) (pos (1022 - n / 4)) (omega (arith, leb-true (suc n) 255 h))

-- so the product is of the two, whatever they are written as
pub made_of : (z k f : ℤ) → is_step z ≡ true → k ≡ int_rem_euclid z (pos 4) → f ≡ pos 1023 +ℤ quarter z
    → mul binary64 (constant (nat_abs k)) (of_bits binary64 (nat_abs f * 4503599627370496)) ≡ amplitude z
made_of z k f h e q = rw (e, q, rest-is z, field-is z h) (made z h)

field-small : (z : ℤ) → is_step z ≡ true → field z < 2047
field-small (pos n) h = omega (arith, leb-true n 255 h)
field-small (negsuc n) h = omega arith

pub sum_fits : (z : ℤ) → is_step z ≡ true → SFits w32 (pos 1023 +ℤ quarter z)
sum_fits z h = rw (field-is z h) (record { sfits = omega (arith, field-small z h) })

pub quarter_fits : (z : ℤ) → is_step z ≡ true → SFits w32 (quarter z)
quarter_fits (pos n) h = record { sfits = omega (arith, leb-true n 255 h) }
quarter_fits (negsuc n) h = record { sfits = omega (arith, leb-true (suc n) 255 h) }
