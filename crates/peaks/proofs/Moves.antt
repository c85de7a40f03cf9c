-- The comparison of the code, in capped numbers and whole quarters of the steps, is that of the definition.
use Prim.Native.Nat.{ℕ, suc, ◌+◌, ◌-◌, ◌*◌, ◌/◌, ◌%◌, ◌^◌, ◌≤◌, ◌<◌, min}
use native.Mathlib.Omega.{arith}
use native.Mathlib.Nat.{lt_of_lt_of_le, mul-le-mul, mul-le-mul_right, le_of_mul-le-mul_right, mul_assoc, mul-one, pow-le-pow_left}
use mathlib.Core.Path.{◌≡◌, sym, ◌∙◌}
use lib.Dec.{leb}
use lib.Pow.{pow_pos, pow-add, pow_mono}
use lib.IntN.{ℤ, pos, negsuc, nat_abs}
use lib.Signed.{lt_z, shr_z}
use mir.Syntax.{w32}
use mir.Val.{SFits}
use native.Mathlib.Numerals.{add-one}
use mathlib.Core.Bool.{true, false}
use Rattle.std.specs.Int.{int_rem_euclid}
use borrow.Author.Tests.{le-leb, lt-leb, leb-true, leb-false, ltb-true}
use Rattle.integers.proofs.Sign.{cases}
use Rattle.peaks.specs.Peak.{reaches, largest, new_count}
use Rattle.peaks.specs.Halves.{capped, within}
use Rattle.peaks.proofs.Wides.{to-fourth}
use Rattle.peaks.proofs.Counts.{largest-same}

-- ---- powers

fourth-mul : (a b : ℕ) → (a * b) ^ 4 ≡ a ^ 4 * b ^ 4
fourth-mul a b = rw (to-fourth (a * b), to-fourth a, to-fourth b) (omega arith)

fourth-two : (q : ℕ) → (2 ^ q) ^ 4 ≡ 2 ^ (4 * q)
fourth-two q =
    let e : 4 * q ≡ q + q + (q + q) = omega arith in
    rw (to-fourth (2 ^ q), e, pow-add 2 (q + q) (q + q), pow-add 2 q q)

-- x to the fourth power times 2 to the power of k, the whole quarters of k taken in
taken_in : (x q r k : ℕ) → 4 * q + r ≡ k → x ^ 4 * 2 ^ k ≡ (x * 2 ^ q) ^ 4 * 2 ^ r
taken_in x q r k e = rw (← e, pow-add 2 (4 * q) r, fourth-mul x (2 ^ q), fourth-two q) (omega arith)

-- 1, 2, 4 or 8
pub small_power : (r : ℕ) → r < 4 → 2 ^ r ≤ 8
small_power r h = let o : r ≤ 3 = omega arith in pow_mono {j = 3} o

-- ---- comparisons

both_ways : (a b c d : ℕ) → (a ≤ b → c ≤ d) → (c ≤ d → a ≤ b) → leb a b ≡ leb c d
both_ways a b c d f g = cases (leb a b)
    (λ t. t ∙ sym (le-leb c d (f (leb-true a b t))))
    (λ t. t ∙ sym (cases (leb c d) (λ u. absurd (omega (arith, leb-false a b t, g (leb-true c d u)))) (λ u. u)))

times-same : (a b c : ℕ) → 0 < c → leb a b ≡ leb (a * c) (b * c)
times-same a b c h = both_ways a b (a * c) (b * c) (mul-le-mul_right c) (λ l. le_of_mul-le-mul_right l h)

-- a v that is too large passes every u, capped or not
cap-right : (u v m : ℕ) → u ≤ 536870912 → 0 < m → leb (u ^ 4) (v ^ 4 * m) ≡ leb (u ^ 4) (min v 536870912 ^ 4 * m)
cap-right u v m h k = cases (leb v 536870912)
    (λ t. let e : min v 536870912 ≡ v = omega (arith, leb-true v 536870912 t) in rw e)
    (λ t.
    let e : min v 536870912 ≡ 536870912 = omega (arith, leb-false v 536870912 t) in
    let o : u ≤ v = omega (arith, leb-false v 536870912 t) in
    rw (e, le-leb _ _ (grown u v m (pow-le-pow_left o 4) k), le-leb _ _ (grown u 536870912 m (pow-le-pow_left h 4) k)))
  where
    grown : (u v m : ℕ) → u ^ 4 ≤ v ^ 4 → 0 < m → u ^ 4 ≤ v ^ 4 * m
    grown u v m l k = omega (arith, mul-le-mul l k)

-- a u that is too large passes no v below 2^28, capped or not
cap-left : (u v m : ℕ) → v < 268435456 → m ≤ 8 → leb (u ^ 4) (v ^ 4 * m) ≡ leb (min u 536870912 ^ 4) (v ^ 4 * m)
cap-left u v m h k = cases (leb u 536870912)
    (λ t. let e : min u 536870912 ≡ u = omega (arith, leb-true u 536870912 t) in rw e)
    (λ t.
    let e : min u 536870912 ≡ 536870912 = omega (arith, leb-false u 536870912 t) in
    let o : 536870912 ≤ u = omega (arith, leb-false u 536870912 t) in
    let l : v ≤ 268435456 = omega arith in
    let x : v ^ 4 * m < 536870912 ^ 4 = omega (arith, mul-le-mul (pow-le-pow_left l 4) k) in
    rw (e, lt-leb _ _ (lt_of_lt_of_le x (pow-le-pow_left o 4)), lt-leb _ _ x))

-- ---- the two directions

module _ (p k n : ℕ) (h : 2 * p < 268435456) (z : 0 < n) (l : n < 134217728) where
  up : reaches p (pos k) n ≡ within 0 (capped (2 * p) (k / 4) ^ 4 * 2 ^ (k % 4)) n
  unfolding reaches
  up =
      let e : min ((2 * n - 1) * 2 ^ 0) 536870912 ≡ 2 * n - 1 = omega arith in
      rw (e, mul-one, taken_in (2 * p) (k / 4) (k % 4) k (omega arith)) (cap-right (2 * n - 1) (2 * p * 2 ^ (k / 4)) (2 ^ (k % 4)) (omega arith) (pow_pos (k % 4)))

  down : reaches p (negsuc k) n ≡ within (k / 4 + 1) ((2 * p) ^ 4 * 2 ^ (3 - k % 4)) n
  unfolding reaches
  down =
      let r = 3 - k % 4 in
      let x = 2 * n - 1 in
      let q = k / 4 + 1 in
      let j : suc k + r ≡ 4 * q = omega arith in
      let e : x ^ 4 * 2 ^ suc k * 2 ^ r ≡ (x * 2 ^ q) ^ 4 = rw (mul_assoc (x ^ 4) (2 ^ suc k) (2 ^ r), ← pow-add 2 (suc k) r, j, ← fourth-two q, ← fourth-mul x (2 ^ q)) in
      times-same ((2 * n - 1) ^ 4 * 2 ^ suc k) ((2 * p) ^ 4 * 1) (2 ^ r) (pow_pos r) ∙ rw (e, mul-one) (cap-left ((2 * n - 1) * 2 ^ (k / 4 + 1)) (2 * p) (2 ^ r) h (small_power r (omega arith)))

-- ---- the new count, as the code finds it

module _ (p k : ℕ) (h : 2 * p < 268435456) where
  count-up : new_count (pos k) p ≡ largest (within 0 (capped (2 * p) (k / 4) ^ 4 * 2 ^ (k % 4))) 27 0
  unfolding new_count
  count-up = largest-same (reaches p (pos k)) (within 0 (capped (2 * p) (k / 4) ^ 4 * 2 ^ (k % 4))) 134217728 (λ n z l. up p k n h z l) 27 0 (omega arith)

  count_down : new_count (negsuc k) p ≡ largest (within (k / 4 + 1) ((2 * p) ^ 4 * 2 ^ (3 - k % 4))) 27 0
  unfolding new_count
  count_down = largest-same (reaches p (negsuc k)) (within (k / 4 + 1) ((2 * p) ^ 4 * 2 ^ (3 - k % 4))) 134217728 (λ n z l. down p k n h z l) 27 0 (omega arith)

-- the same by the steps' quarters, as the code divides them
module _ (p : ℕ) (z : ℤ) (h : 2 * p < 268435456) where
  pub count-below : lt_z (shr_z z 4) (pos 0) ≡ true → new_count z p ≡ largest (within (nat_abs (shr_z z 4)) ((2 * p) ^ 4 * 2 ^ nat_abs (int_rem_euclid z (pos 4)))) 27 0
  count-below t = go z t
    where
      go : (z : ℤ) → lt_z (shr_z z 4) (pos 0) ≡ true → new_count z p ≡ largest (within (nat_abs (shr_z z 4)) ((2 * p) ^ 4 * 2 ^ nat_abs (int_rem_euclid z (pos 4)))) 27 0
      go (pos k) t = absurd (omega (arith, ltb-true (k / 4) 0 t))
      go (negsuc k) t = rw add-one at (count_down p k h)

  pub count-above : lt_z (shr_z z 4) (pos 0) ≡ false → new_count z p ≡ largest (within 0 (capped (2 * p) (nat_abs (shr_z z 4)) ^ 4 * 2 ^ nat_abs (int_rem_euclid z (pos 4)))) 27 0
  count-above t = go z t
    where
      go : (z : ℤ) → lt_z (shr_z z 4) (pos 0) ≡ false → new_count z p ≡ largest (within 0 (capped (2 * p) (nat_abs (shr_z z 4)) ^ 4 * 2 ^ nat_abs (int_rem_euclid z (pos 4)))) 27 0
      go (pos k) t = count-up p k h
      go (negsuc k) t = absurd (let e : ◌≡◌ {A = ℕ} 0 1 = cc in omega arith)

pub quarter_fits : (z : ℤ) → SFits w32 z → SFits w32 (shr_z z 4)
quarter_fits (pos n) f = record { sfits = let h : n < 2147483648 = f.sfits in omega arith }
quarter_fits (negsuc n) f = record { sfits = let h : n < 2147483648 = f.sfits in omega arith }
