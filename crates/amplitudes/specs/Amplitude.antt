-- Amplitudes (document 02, request 14): 2 to the power of a quarter of the steps.
use Rattle.std.specs.Prelude.{◌≡◌, true, false, ◌&&◌, List, [], ◌∷◌, ℕ, suc, ◌+◌, ◌-◌, ◌*◌, ◌%◌, ◌^◌, ◌≤◌, ◌<◌, get_or, ℤ, pos, negsuc, ◌+ℤ◌, ◌*ℤ◌, Float, Result, Ok, Err}
use Rattle.std.specs.Int.Signed.{shr_z}
use Rattle.std.specs.Float.{fin, binary64}
use Rattle.std.specs.Float.Ieee.{up, down, mul, of_bits, to_bits}
use Rattle.std.specs.Float.Ieee.Exact.{HasValue}
use Rattle.replies.specs.declared.Refusal.{Refusal}
use Rattle.replies.specs.declared.Refusal.TheVariants.{StepOutOfRange}
use Rattle.replies.specs.Refusal.{need, refusal_of, Plan, no, yes, planned}
use Rattle.slip.specs.Slip.{is_step}
use Rattle.amplitudes.specs.declared.Amplitudes.{Amplitudes}

-- ---- the four constants

-- the fourth roots of 1, 2, 4 and 8, each in units of 2^-52
abbrev pub roots : List ℕ
roots = 4503599627370496 ∷ 5355712719992597 ∷ 6369051672525773 ∷ 7574121564787629 ∷ []

-- the fourth root of 2^k, for k below 4
abbrev pub root : ℕ → ℕ
root k = get_or roots k 0

-- the bits of m units, for an m of 53 binary digits: the exponent's field is 1023, and the leading digit is not written
abbrev pub bits : ℕ → ℕ
bits m = 1023 * 2 ^ 52 + (m - 2 ^ 52)

-- the constant for 2 to the power k/4, for k below 4
abbrev pub constant : ℕ → Float
constant k = of_bits binary64 (bits (root k))

-- ---- one amplitude

-- the steps divided by 4, rounded down: of -1 it is -1
abbrev pub quarter : ℤ → ℤ
quarter s = shr_z s 4

-- what that leaves: of -1 it is 3
abbrev pub rest : ℤ → ℕ
rest (pos n) = n % 4
rest (negsuc n) = 3 - n % 4

-- 2 to the power z, exactly
abbrev pub power : ℤ → Float
power z = fin false 1 z

-- 2 to the power of steps / 4: the f64 product of a constant and a power of two
unfoldable pub amplitude : ℤ → Float
amplitude s = mul binary64 (constant (rest s)) (power (quarter s))

-- ---- the claims

-- m has 53 binary digits, and the fourth root of 2^k lies strictly between m - 1/2 and m + 1/2 units: in half units, to the fourth power
pub record NearestRoot (k m : ℕ) : Type 0 where
  pub least : 2 ^ 52 ≤ m
  pub most : m < 2 ^ 53
  pub above : (2 * m - 1) ^ 4 < 2 ^ k * (2 ^ 53) ^ 4
  pub below : 2 ^ k * (2 ^ 53) ^ 4 < (2 * m + 1) ^ 4

-- bits with the exponent moved: its field begins at bit 52
abbrev pub moved : ℤ → ℕ → ℕ
moved (pos n) b = b + n * 2 ^ 52
moved (negsuc n) b = b - suc n * 2 ^ 52

-- what is claimed of the amplitude of a step
pub record Exact (s : ℤ) : Type 0 where
  -- the steps are four times the exponent of the power, and what picks the constant
  pub divided : pos 4 *ℤ quarter s +ℤ pos (rest s) ≡ s
  pub four : rest s < 4
  -- the bits of the product are those of the constant with the exponent moved
  pub exponent-moved : to_bits binary64 (amplitude s) ≡ moved (quarter s) (bits (root (rest s)))
  -- so nothing is rounded: the amplitude is so many units of 2^-52, times the power
  pub value : HasValue (amplitude s) false (root (rest s) * up (quarter s)) (2 ^ 52 * down (quarter s))

-- what is claimed of the constants and of every step
pub record Claims : Type 0 where
  -- each constant is nearest to its root
  pub nearest : (k : ℕ) → k < 4 → NearestRoot k (root k)
  -- and no other number of units is
  pub only : (k m : ℕ) → k < 4 → NearestRoot k m → m ≡ root k
  pub exact : (s : ℤ) → is_step s ≡ true → Exact s
  -- zero steps give exactly 1.0, which is 1 * 2^0
  pub zero-steps : amplitude (pos 0) ≡ fin false 1 (pos 0)

-- ---- the call

-- refusal 2, or two amplitudes
unfoldable pub amplitudes_plan : ℤ → ℤ → Plan Amplitudes
amplitudes_plan l r =
    planned (refusal_of (need StepOutOfRange (is_step l && is_step r) ∷ [])) (record { left = amplitude l; right = amplitude r })

-- the answer of the code
abbrev pub answer : Plan Amplitudes → Result Amplitudes Refusal
answer (no r) = Err r
answer (yes a) = Ok a
