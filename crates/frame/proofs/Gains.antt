-- Laws of `adjust`: a list of steps, and the way back from it.
use mathlib.Core.Path.{◌≡◌, refl, ◌∙◌}
use mathlib.Core.Logic.{◌↔◌, inl, inr}
use mathlib.Core.List.{List, [], ◌∷◌}
use Prim.Native.Nat.{ℕ, zero, suc, ◌+◌, ◌-◌, ◌*◌, ◌/◌, ◌%◌, ◌≤◌, ◌<◌, min}
use native.Mathlib.Omega.{arith}
use lib.IntN.{ℤ, pos, negsuc, neg_ℤ, ◌+ℤ◌}
use Rattle.integers.proofs.Parts.{up, down, one-part, neg-up, neg-down, sum-parts, le_parts, parts-le}
use Rattle.frame.specs.declared.GainMode.{GainMode}
use Rattle.frame.specs.declared.GainMode.TheVariants.{Saturating, Wrapping}
use Rattle.frame.specs.Gain.{clamp_step, clamp_gain, residue, adjust}
use Rattle.frame.specs.Steps.{after, sum, back, Lands, InRange, Kept}

-- the adjustment in numbers that omega reads
clamp_gain-parts : (z : ℤ) → clamp_gain z ≡ min 255 (up z)
clamp_gain-parts (pos n) = refl
clamp_gain-parts (negsuc n) = omega arith

clamp_step-up : (z : ℤ) → up (clamp_step z) ≡ min 255 (up z)
clamp_step-up (pos n) = refl
clamp_step-up (negsuc n) = omega arith

clamp_step-down : (z : ℤ) → down (clamp_step z) ≡ min 255 (down z)
clamp_step-down (pos n) = omega arith
clamp_step-down (negsuc n) = omega arith

pub adjust-zero : (s : ℤ) → adjust Saturating s 0 ≡ 0
unfolding adjust
adjust-zero s = refl

pub adjust-saturating : (s : ℤ) (g : ℕ) → 1 ≤ g → adjust Saturating s g ≡ min 255 (g + min 255 (up s) - min 255 (down s))
unfolding adjust
adjust-saturating s zero h = absurd (omega arith)
adjust-saturating s (suc g) h =
    let z : ℤ = pos (suc g) +ℤ clamp_step s in
    omega (arith, clamp_gain-parts z, sum-parts (pos (suc g)) (clamp_step s), one-part z, clamp_step-up s, clamp_step-down s)

-- on a gain of 1..255 the clamping of the step cannot be seen
pub adjust-plain : (s : ℤ) (g : ℕ) → 1 ≤ g → g ≤ 255 → adjust Saturating s g ≡ min 255 (g + up s - down s)
adjust-plain (pos n) g l h = omega (arith, adjust-saturating (pos n) g l)
adjust-plain (negsuc n) g l h = omega (arith, adjust-saturating (negsuc n) g l)

-- the two agree modulo 256
residue-parts : (z : ℤ) → (p : ℕ) × (q : ℕ) × (residue z + down z + 256 * p ≡ up z + 256 * q)
residue-parts (pos n) = (n / 256, 0, omega arith)
residue-parts (negsuc n) = (0, suc (n / 256), omega arith)

residue-below : (z : ℤ) → residue z < 256
residue-below (pos n) = omega arith
residue-below (negsuc n) = omega arith

pub one-residue : (a b p q : ℕ) → a < 256 → b < 256 → a + 256 * p ≡ b + 256 * q → a ≡ b
one-residue a b p q h k e = omega arith

-- the adjustment as the source has it: a saturating sum or difference, or the step's residue added
pub adjust-up : (n g : ℕ) → 1 ≤ g → adjust Saturating (pos n) g ≡ min 255 (g + min 255 n)
adjust-up n g h = omega (arith, adjust-saturating (pos n) g h)

pub adjust-down : (n g : ℕ) → g ≤ 255 → adjust Saturating (negsuc n) g ≡ g - min 255 (suc n)
adjust-down n zero h = omega (arith, adjust-zero (negsuc n))
adjust-down n (suc g) h = omega (arith, adjust-saturating (negsuc n) (suc g) (omega arith))

pub adjust-residue : (s : ℤ) (g : ℕ) → adjust Wrapping s g ≡ (g + residue s) % 256
unfolding adjust
adjust-residue s g =
    let x : ℕ = g + residue s in
    let (p, q, e) = residue-parts (pos g +ℤ s) in
    let (p', q', e') = residue-parts s in
    one-residue _ (x % 256) (p + q') (p' + q + x / 256) (residue-below (pos g +ℤ s)) (omega arith) (omega (arith, sum-parts (pos g) s))

pub adjust-below : (m : GainMode) (s : ℤ) (g : ℕ) → adjust m s g < 256
unfolding adjust
adjust-below Saturating s zero = omega arith
adjust-below Saturating s (suc g) = omega (arith, adjust-saturating s (suc g) (omega arith))
adjust-below Wrapping s g = residue-below (pos g +ℤ s)

-- ---- wrapping: the sums cancel modulo 256

pub adjust-wrapping : (s : ℤ) (g : ℕ) → (p : ℕ) × (q : ℕ) × (adjust Wrapping s g + down s + 256 * p ≡ g + up s + 256 * q)
unfolding adjust
adjust-wrapping s g =
    let (p, q, e) = residue-parts (pos g +ℤ s) in
    (p, q, omega (arith, sum-parts (pos g) s))

pub after-wrapping : (steps : List ℤ) (g : ℕ) → (p : ℕ) × (q : ℕ) × (after Wrapping steps g + down (sum steps) + 256 * p ≡ g + up (sum steps) + 256 * q)
unfolding after sum
after-wrapping [] g = (0, 0, refl)
after-wrapping (s ∷ ss) g =
    let (p, q, e) = adjust-wrapping s g in
    let (p', q', e') = after-wrapping ss (adjust Wrapping s g) in
    (p + p', q + q', omega (arith, sum-parts s (sum ss)))

pub back-wrapping : (steps : List ℤ) (g : ℕ) → g < 256 → back Wrapping steps g ≡ g
unfolding back
back-wrapping steps g h =
    let u : ℤ = neg_ℤ (sum steps) in
    let (p, q, e) = after-wrapping steps g in
    let (p', q', e') = adjust-wrapping u (after Wrapping steps g) in
    one-residue _ g (p + p') (q + q') (adjust-below Wrapping u (after Wrapping steps g)) h (omega (arith, neg-up (sum steps), neg-down (sum steps)))

-- ---- saturating

pub after-zero : (steps : List ℤ) → after Saturating steps 0 ≡ 0
unfolding after adjust
after-zero [] = refl
after-zero (s ∷ ss) = after-zero ss

-- what omega needs of one step
module _ (s : ℤ) (g : ℕ) (l : 1 ≤ g) (h : g ≤ 255) where
  pub lands : Lands (pos g +ℤ s) → (adjust Saturating s g + down s ≡ g + up s) × (1 ≤ adjust Saturating s g) × (adjust Saturating s g ≤ 255)
  unfolding Lands
  lands (r₁, r₂) = omega (arith, adjust-plain s g l h, one-part s, sum-parts (pos g) s, le_parts r₁, le_parts r₂)

  pub landed : 1 ≤ adjust Saturating s g → adjust Saturating s g + down s ≡ g + up s → Lands (pos g +ℤ s)
  unfolding Lands
  landed p e = (parts-le (omega (arith, sum-parts (pos g) s)), parts-le (omega (arith, adjust-plain s g l h, sum-parts (pos g) s)))

  pub never-over : 1 ≤ adjust Saturating s g → (adjust Saturating s g + down s ≤ g + up s) × (adjust Saturating s g ≤ 255)
  never-over p = omega (arith, adjust-plain s g l h)

-- a gain that every step leaves in 1..255 moves by exactly the sum
pub exact : (steps : List ℤ) (g : ℕ) → 1 ≤ g → g ≤ 255 → InRange Saturating steps g
    → (after Saturating steps g + down (sum steps) ≡ g + up (sum steps)) × (1 ≤ after Saturating steps g) × (after Saturating steps g ≤ 255)
unfolding after sum InRange
exact [] g l h r = (refl, l, h)
exact (s ∷ ss) g l h (r, rs) =
    let (e, l', h') = lands s g l h r in
    let (i, j, k) = exact ss (adjust Saturating s g) l' h' rs in
    (omega (arith, sum-parts s (sum ss)), j, k)

-- one that does not end at 0 was never at 0, and has moved by the sum at the most
alive : (steps : List ℤ) (g : ℕ) → 1 ≤ after Saturating steps g → 1 ≤ g
alive steps zero p = omega (arith, after-zero steps)
alive steps (suc g) p = omega arith

pub at_most : (steps : List ℤ) (g : ℕ) → g ≤ 255 → 1 ≤ after Saturating steps g
    → (after Saturating steps g + down (sum steps) ≤ g + up (sum steps)) × (after Saturating steps g ≤ 255)
unfolding after sum
at_most [] g h p = omega arith
at_most (s ∷ ss) g h p =
    let (i, j) = never-over s g (alive (s ∷ ss) g p) h (alive ss (adjust Saturating s g) p) in
    let (k, l) = at_most ss (adjust Saturating s g) j p in
    (omega (arith, sum-parts s (sum ss)), l)

-- and if it has moved by the sum, every step has left it in 1..255
was-exact : (steps : List ℤ) (g : ℕ) → g ≤ 255 → 1 ≤ after Saturating steps g
    → after Saturating steps g + down (sum steps) ≡ g + up (sum steps) → InRange Saturating steps g
unfolding after sum InRange
was-exact [] g h p e = tt
was-exact (s ∷ ss) g h p e =
    let l : 1 ≤ g = alive (s ∷ ss) g p in
    let l' : 1 ≤ adjust Saturating s g = alive ss (adjust Saturating s g) p in
    let (i, j) = never-over s g l h l' in
    let (k, _) = at_most ss (adjust Saturating s g) j p in
    (landed s g l h l' (omega (arith, sum-parts s (sum ss))), was-exact ss (adjust Saturating s g) j p (omega (arith, sum-parts s (sum ss))))

-- undo, in the same terms
back-saturating : (steps : List ℤ) (g : ℕ) → 1 ≤ after Saturating steps g → after Saturating steps g ≤ 255
    → back Saturating steps g ≡ min 255 (after Saturating steps g + down (sum steps) - up (sum steps))
unfolding back
back-saturating steps g p q = adjust-plain (neg_ℤ (sum steps)) (after Saturating steps g) p q ∙ cc (neg-up (sum steps), neg-down (sum steps))

back-zero : (steps : List ℤ) (g : ℕ) → after Saturating steps g ≡ 0 → back Saturating steps g ≡ 0
unfolding back
back-zero steps g e = cc (e, adjust-zero (neg_ℤ (sum steps)))

-- ---- back exactly when kept

pub kept_back : (m : GainMode) (steps : List ℤ) (g : ℕ) → g < 256 → Kept m steps g → back m steps g ≡ g
unfolding Kept
kept_back Wrapping steps g h k = back-wrapping steps g h
kept_back Saturating steps zero h k = back-zero steps 0 (after-zero steps)
kept_back Saturating steps (suc g) h (inl e) = cc
kept_back Saturating steps (suc g) h (inr (inl e)) = absurd (omega arith)
kept_back Saturating steps (suc g) h (inr (inr r)) =
    let (i, j, k) = exact steps (suc g) (omega arith) (omega arith) r in
    omega (arith, back-saturating steps (suc g) j k)

pub back-kept : (m : GainMode) (steps : List ℤ) (g : ℕ) → g < 256 → back m steps g ≡ g → Kept m steps g
unfolding Kept
back-kept Wrapping steps g h e = inl refl
back-kept Saturating steps zero h e = inr (inl refl)
back-kept Saturating steps (suc g) h e =
    let p : 1 ≤ after Saturating steps (suc g) = ends (after Saturating steps (suc g)) refl in
    let (i, j) = at_most steps (suc g) (omega arith) p in
    inr (inr (was-exact steps (suc g) (omega arith) p (omega (arith, back-saturating steps (suc g) p j))))
  where
    ends : (a : ℕ) → after Saturating steps (suc g) ≡ a → 1 ≤ after Saturating steps (suc g)
    ends zero q = absurd (omega (arith, back-zero steps (suc g) q))
    ends (suc a) q = omega arith

pub back-exactly : (m : GainMode) (steps : List ℤ) (g : ℕ) → g < 256 → (back m steps g ≡ g) ↔ Kept m steps g
back-exactly m steps g h = (back-kept m steps g h, kept_back m steps g h)
