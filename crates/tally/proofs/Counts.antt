-- Laws of `count`: one gain after another, by blocks, and by tests that say the same of bytes.
use Prim.Native.Nat.{ℕ, zero, suc, ◌+◌, ◌≤◌, ◌<◌}
use native.Mathlib.Numerals.{add-one}
use native.Mathlib.Omega.{arith}
use mathlib.Core.Path.{◌≡◌, refl, ◌∙◌}
use mathlib.Core.Bool.{Bool, true, false, cond}
use mathlib.Core.List.{List, [], ◌∷◌}
use lib.ListN.{length, get_or, take, drop, length-drop, drop_of_length-le}
use lib.Seq.{get_or-drop, drop-cons, drop-drop}
use Rattle.lists.specs.Bytes.{Small}
use Rattle.tally.specs.Tally.{count}

module _ (p : ℕ → Bool) where
  -- what stands before a place, and what stands from it on
  pub count-split : (n : ℕ) (gs : List ℕ) → count p gs ≡ count p (take n gs) + count p (drop n gs)
  unfolding count
  count-split zero gs = omega arith
  count-split (suc n) [] = refl
  count-split (suc n) (g ∷ gs) = omega (arith, count-split n gs)

  -- one more gain before a place
  count-last : (gs : List ℕ) (k : ℕ) → k < length gs → count p (take (suc k) gs) ≡ count p (take k gs) + cond (p (get_or gs k 0)) 1 0
  unfolding count
  count-last [] k h = absurd (omega arith)
  count-last (g ∷ gs) zero h = omega arith
  count-last (g ∷ gs) (suc k) h = omega (arith, count-last gs k (omega arith))

  -- one more gain of a block
  pub count-gather : (gs : List ℕ) (at k : ℕ) → at + k < length gs
      → count p (take (k + 1) (drop at gs)) ≡ count p (take k (drop at gs)) + cond (p (get_or gs (at + k) 0)) 1 0
  count-gather gs at k h =
      rw (add-one, count-last (drop at gs) k (simp length-drop (omega arith)), get_or-drop)

  -- a block, and what stands behind it
  pub count-block : (gs : List ℕ) (at w : ℕ) → count p (drop at gs) ≡ count p (take w (drop at gs)) + count p (drop (at + w) gs)
  count-block gs at w = count-split w (drop at gs) ∙ rw drop-drop

  -- one gain, and what stands behind it
  pub count-one : (gs : List ℕ) (at : ℕ) → at < length gs → count p (drop at gs) ≡ cond (p (get_or gs at 0)) 1 0 + count p (drop (at + 1) gs)
  unfolding count
  count-one gs at h = rw (drop-cons gs at 0 h, add-one)

  pub count-end : (gs : List ℕ) (at : ℕ) → length gs ≤ at → count p (drop at gs) ≡ 0
  unfolding count
  count-end gs at h = rw (drop_of_length-le gs {i = at} h)

  pub count_most : (gs : List ℕ) → count p gs ≤ length gs
  unfolding count
  count_most [] = omega arith
  count_most (g ∷ gs) = go (p g) (count_most gs)
    where
      go : (t : Bool) → count p gs ≤ length gs → cond t 1 0 + count p gs ≤ suc (length gs)
      go true h = omega arith
      go false h = omega arith

  -- no gain passes
  pub count-never : (gs : List ℕ) → Small gs → ((g : ℕ) → g < 256 → p g ≡ false) → count p gs ≡ 0
  unfolding count
  count-never [] s e = refl
  count-never (g ∷ gs) s e = rw (e g (s 0)) (omega (arith, count-never gs (λ i. s (suc i)) e))

-- two tests that say the same of bytes
pub count_same : (p q : ℕ → Bool) (gs : List ℕ) → Small gs → ((g : ℕ) → g < 256 → p g ≡ q g) → count p gs ≡ count q gs
unfolding count
count_same p q [] s e = refl
count_same p q (g ∷ gs) s e = rw (e g (s 0), count_same p q gs (λ i. s (suc i)) e)
