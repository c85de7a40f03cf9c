-- The three tests of a gain and their counts, as the code has them: up by n, and down by n + 1.
use Prim.Native.Nat.{ℕ, suc, ◌+◌, ◌-◌, ◌≤◌, ◌<◌, min}
use native.Mathlib.Omega.{arith}
use mathlib.Core.Path.{◌≡◌, refl, sym, ap, ◌∙◌}
use mathlib.Core.Bool.{Bool, true, false, ◌&&◌, ◌||◌}
use mathlib.Core.List.{List}
use lib.Dec.{leb, ltb}
use lib.IntN.{pos, negsuc, sub_ℕ}
use lib.Signed.{lt_z}
use borrow.Author.Tests.{leb-true, leb-false, ltb-true, ltb-false, lt-ltb, le-ltb, le-leb}
use Rattle.lists.specs.Bytes.{Small}
use Rattle.tally.specs.Tally.{count, within, is_low, is_high, is_lost}
use Rattle.tally.proofs.Counts.{count-never, count_same}

-- two tests of which each passes where the other does
same-ltb : (a b c d : ℕ) → (a < b → c < d) → (c < d → a < b) → ltb a b ≡ ltb c d
same-ltb a b c d f g = go (ltb a b) (ltb c d) refl refl
  where
    go : (t u : Bool) → ltb a b ≡ t → ltb c d ≡ u → ltb a b ≡ ltb c d
    go true true p q = p ∙ sym q
    go true false p q = absurd (omega (arith, f (ltb-true a b p), ltb-false c d q))
    go false true p q = absurd (omega (arith, g (ltb-true c d q), ltb-false a b p))
    go false false p q = p ∙ sym q

-- a difference below a number, and above one
sub-under : (a b k : ℕ) → lt_z (sub_ℕ a b) (pos k) ≡ ltb a (k + b)
sub-under a b k = go (ltb a b) refl
  where
    go : (t : Bool) → ltb a b ≡ t → lt_z (sub_ℕ a b) (pos k) ≡ ltb a (k + b)
    go true e = let h : a < b = ltb-true a b e in rw (e, lt-ltb a (k + b) (omega arith))
    go false e = let h : b ≤ a = ltb-false a b e in rw e (same-ltb (a - b) k a (k + b) (λ l. omega arith) (λ l. omega arith))

sub-over : (a b k : ℕ) → lt_z (pos k) (sub_ℕ a b) ≡ ltb (k + b) a
sub-over a b k = go (ltb a b) refl
  where
    go : (t : Bool) → ltb a b ≡ t → lt_z (pos k) (sub_ℕ a b) ≡ ltb (k + b) a
    go true e = let h : a < b = ltb-true a b e in rw (e, le-ltb (k + b) a (omega arith))
    go false e = let h : b ≤ a = ltb-false a b e in rw e (same-ltb k (a - b) (k + b) a (λ l. omega arith) (λ l. omega arith))

or-false : (t : Bool) → (t || false) ≡ t
or-false true = refl
or-false false = refl

and-false : (t : Bool) → (t && false) ≡ false
and-false true = refl
and-false false = refl

below : (g m : ℕ) → ltb g (suc m) ≡ leb g m
below g m = go (leb g m) refl
  where
    go : (t : Bool) → leb g m ≡ t → ltb g (suc m) ≡ leb g m
    go true e = let h : g ≤ m = leb-true g m e in lt-ltb g (suc m) (omega arith) ∙ sym e
    go false e = let h : m < g = leb-false g m e in le-ltb g (suc m) (omega arith) ∙ sym e

-- ---- down by n + 1

pub low-down : (n g : ℕ) → is_low (negsuc n) g ≡ within 0 (min n 254) g
unfolding is_low
low-down n g =
    let z : 0 + suc (min 254 n) ≡ suc (min n 254) = omega arith in
    ap (λ (t : Bool). ltb 0 g && t) (sub-under g (suc (min 254 n)) 0 ∙ rw z (below g (min n 254)))

pub high_down : (n g : ℕ) → g < 256 → is_high (negsuc n) g ≡ false
unfolding is_high
high_down n g h =
    ap (λ (t : Bool). ltb 0 g && t) (sub-over g (suc (min 254 n)) 255 ∙ le-ltb (255 + suc (min 254 n)) g (omega arith)) ∙ and-false (ltb 0 g)

pub lost-down : (n g : ℕ) → g < 256 → is_lost (negsuc n) g ≡ within 0 (min n 254 + 1) g
unfolding is_lost
lost-down n g h = ap (λ (t : Bool). ltb 0 g && t) either
  where
    either : (lt_z (sub_ℕ g (suc (min 254 n))) (pos 1) || lt_z (pos 255) (sub_ℕ g (suc (min 254 n)))) ≡ leb g (min n 254 + 1)
    either =
        let m : 1 + suc (min 254 n) ≡ suc (min n 254 + 1) = omega arith in
        rw (sub-under g (suc (min 254 n)) 1, sub-over g (suc (min 254 n)) 255, le-ltb (255 + suc (min 254 n)) g (omega arith), or-false, m, below g (min n 254 + 1))

-- ---- up by n

pub low_up : (n g : ℕ) → is_low (pos n) g ≡ false
unfolding is_low
low_up n g = rw (le-ltb (g + min 255 n) 0 (omega arith)) (and-false (ltb 0 g))

pub high-up : (n g : ℕ) → g < 256 → is_high (pos n) g ≡ within (255 - min n 255) 255 g
unfolding is_high
high-up n g h = go (ltb 0 g) refl
  where
    most : leb g 255 ≡ true
    most = le-leb g 255 (omega arith)

    go : (t : Bool) → ltb 0 g ≡ t → (ltb 0 g && ltb 255 (g + min 255 n)) ≡ (ltb (255 - min n 255) g && leb g 255)
    go true e =
        let l : 0 < g = ltb-true 0 g e in
        rw (e, most, same-ltb 255 (g + min 255 n) (255 - min n 255) g (λ k. omega arith) (λ k. omega arith)) (sym (and-true (ltb (255 - min n 255) g)))
      where
        and-true : (t : Bool) → (t && true) ≡ t
        and-true true = refl
        and-true false = refl
    go false e = let l : g ≤ 0 = ltb-false 0 g e in rw (e, le-ltb (255 - min n 255) g (omega arith))

pub lost-up : (n g : ℕ) → is_lost (pos n) g ≡ is_high (pos n) g
unfolding is_lost is_high
lost-up n g = go (ltb 0 g) refl
  where
    go : (t : Bool) → ltb 0 g ≡ t → (ltb 0 g && (ltb (g + min 255 n) 1 || ltb 255 (g + min 255 n))) ≡ (ltb 0 g && ltb 255 (g + min 255 n))
    go true e = let l : 0 < g = ltb-true 0 g e in rw (e, le-ltb (g + min 255 n) 1 (omega arith))
    go false e = rw e

-- ---- counted, with the step as the code has it

module _ (n : ℕ) (gs : List ℕ) (small : Small gs) where
  module _ {d : ℕ} (e : d ≡ min n 254) where
    pub count-low-down : count (within 0 d) gs ≡ count (is_low (negsuc n)) gs
    count-low-down = rw e (sym (count_same (is_low (negsuc n)) (within 0 (min n 254)) gs small (λ g h. low-down n g)))

    pub count-lost-down : count (within 0 (d + 1)) gs ≡ count (is_lost (negsuc n)) gs
    count-lost-down = rw e (sym (count_same (is_lost (negsuc n)) (within 0 (min n 254 + 1)) gs small (lost-down n)))

  pub count-high-down : count (is_high (negsuc n)) gs ≡ 0
  count-high-down = count-never (is_high (negsuc n)) gs small (high_down n)

  pub count-low-up : count (is_low (pos n)) gs ≡ 0
  count-low-up = count-never (is_low (pos n)) gs small (λ g h. low_up n g)

  module _ {u : ℕ} (e : u ≡ min n 255) where
    pub count-high-up : count (within (255 - u) 255) gs ≡ count (is_high (pos n)) gs
    count-high-up = rw e (sym (count_same (is_high (pos n)) (within (255 - min n 255) 255) gs small (high-up n)))

    pub count-lost-up : count (within (255 - u) 255) gs ≡ count (is_lost (pos n)) gs
    count-lost-up = count-high-up ∙ sym (count_same (is_lost (pos n)) (is_high (pos n)) gs small (λ g h. lost-up n g))
