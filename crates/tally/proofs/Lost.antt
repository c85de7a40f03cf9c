-- Undo brings every gain of a list back exactly when no level lost one.
use Prim.Native.Nat.{ℕ, zero, suc, ◌+◌, ◌-◌, ◌≤◌, ◌<◌, min}
use native.Mathlib.Omega.{arith}
use mathlib.Core.Path.{◌≡◌, refl, sym, ap, ◌∙◌}
use mathlib.Core.Logic.{inl, inr}
use mathlib.Core.Bool.{Bool, true, false, cond}
use mathlib.Core.List.{List, [], ◌∷◌, map}
use lib.ListN.{get_or}
use lib.Dec.{leb, ltb}
use lib.IntN.{ℤ, pos, negsuc, ◌+ℤ◌}
use borrow.Author.Tests.{leb-false, ltb-true, ltb-false, lt-ltb, le-ltb, lt-leb}
use Rattle.lists.specs.Bytes.{Small}
use Rattle.integers.proofs.Parts.{sum-parts, le_parts, parts-le}
use Rattle.frame.specs.Gain.{adjust}
use Rattle.frame.specs.Steps.{back, Lands, InRange, Kept}
use Rattle.frame.specs.declared.GainMode.{GainMode}
use Rattle.frame.specs.declared.GainMode.TheVariants.{Saturating, Wrapping}
use Rattle.frame.proofs.Gains.{adjust-zero, adjust-below, lands, kept_back, back-kept}
use Rattle.tally.specs.Tally.{count, within, is_lost, NoneLost, LostTells}
use Rattle.tally.proofs.Tests.{high-up, lost-up, lost-down}

-- ---- one gain, one level

-- a gain above `over` that is not within is above `most`
without : (over most g : ℕ) → within over most g ≡ false → over < g → most < g
without over most g e h = go (leb g most) refl
  where
    go : (t : Bool) → leb g most ≡ t → most < g
    go true q = let x : ◌≡◌ {A = Bool} true false = sym (rw (lt-ltb over g h, q)) ∙ e in absurd (let z : ◌≡◌ {A = ℕ} 1 0 = ap (λ b. cond b 1 0) x in omega arith)
    go false q = leb-false g most q

not-above : (over most g : ℕ) → g ≤ over → within over most g ≡ false
not-above over most g h = rw (le-ltb over g h)

above_most : (over most g : ℕ) → over < g → most < g → within over most g ≡ false
above_most over most g h k = rw (lt-ltb over g h, lt-leb g most k)

module _ (g : ℕ) (l : 1 ≤ g) (h : g ≤ 255) where
  stays-lands : (s : ℤ) → is_lost s g ≡ false → Lands (pos g +ℤ s)
  unfolding Lands
  stays-lands (pos n) e = (parts-le (omega arith), parts-le (omega (arith, least)))
    where
      test : within (255 - min n 255) 255 g ≡ false
      test = sym (lost-up n g ∙ high-up n g (omega arith)) ∙ e

      least : g ≤ 255 - min n 255
      least = go (ltb (255 - min n 255) g) refl
        where
          go : (t : Bool) → ltb (255 - min n 255) g ≡ t → g ≤ 255 - min n 255
          go true q = absurd (omega (arith, without (255 - min n 255) 255 g test (ltb-true _ _ q)))
          go false q = ltb-false _ _ q
  stays-lands (negsuc n) e =
      let k : min n 254 + 1 < g = without 0 (min n 254 + 1) g (sym (lost-down n g (omega arith)) ∙ e) (omega arith) in
      (parts-le (omega (arith, sum-parts (pos g) (negsuc n))), parts-le (omega (arith, sum-parts (pos g) (negsuc n))))

  lands-stays : (s : ℤ) → Lands (pos g +ℤ s) → is_lost s g ≡ false
  unfolding Lands
  lands-stays (pos n) (a, b) = lost-up n g ∙ high-up n g (omega arith) ∙ not-above (255 - min n 255) 255 g (omega (arith, le_parts b))
  lands-stays (negsuc n) (a, b) =
      lost-down n g (omega arith) ∙ above_most 0 (min n 254 + 1) g (omega arith) (omega (arith, le_parts a, sum-parts (pos g) (negsuc n)))

zero-stays : (s : ℤ) → is_lost s 0 ≡ false
unfolding is_lost
zero-stays s = refl

-- ---- one gain, a list of levels

module _ (s : ℤ) (ss : List ℤ) where
  kept_more : (g : ℕ) → g < 256 → is_lost s g ≡ false → Kept Saturating ss (adjust Saturating s g) → Kept Saturating (s ∷ ss) g
  unfolding Kept InRange
  kept_more zero b e k = inr (inl refl)
  kept_more (suc g) b e k =
      let r = stays-lands (suc g) (omega arith) (omega arith) s e in
      let (i, j, m) = lands s (suc g) (omega arith) (omega arith) r in
      rest r j k
    where
      rest : Lands (pos (suc g) +ℤ s) → 1 ≤ adjust Saturating s (suc g) → Kept Saturating ss (adjust Saturating s (suc g)) → Kept Saturating (s ∷ ss) (suc g)
      rest r j (inl w) = inl w
      rest r j (inr (inl z)) = absurd (omega arith)
      rest r j (inr (inr i)) = inr (inr (r, i))

  kept_less : (g : ℕ) → g < 256 → Kept Saturating (s ∷ ss) g → (is_lost s g ≡ false) × Kept Saturating ss (adjust Saturating s g)
  unfolding Kept InRange
  kept_less zero b k = (zero-stays s, inr (inl (adjust-zero s)))
  kept_less (suc g) b (inl w) = absurd (let z : ◌≡◌ {A = ℕ} 0 1 = cc in omega arith)
  kept_less (suc g) b (inr (inl z)) = absurd (omega arith)
  kept_less (suc g) b (inr (inr (r, i))) = (lands-stays (suc g) (omega arith) (omega arith) s r, inr (inr i))

-- ---- a list of gains

-- every gain of a list
unfoldable Each : (ℕ → Type 0) → List ℕ → Type 0
Each P [] = Unit {0}
Each P (g ∷ gs) = P g × Each P gs

abbrev Byte : ℕ → Type 0
Byte g = g < 256

bytes : (gs : List ℕ) → Small gs → Each Byte gs
unfolding Each
bytes [] s = tt
bytes (g ∷ gs) s = (s 0, bytes gs (λ i. s (suc i)))

adjusted-bytes : (m : GainMode) (s : ℤ) (gs : List ℕ) → Each Byte (map (adjust m s) gs)
unfolding Each
adjusted-bytes m s [] = tt
adjusted-bytes m s (g ∷ gs) = (adjust-below m s g, adjusted-bytes m s gs)

-- a count is 0 exactly where no gain passes
none_pass : (p : ℕ → Bool) (gs : List ℕ) → count p gs ≡ 0 → Each (λ g. p g ≡ false) gs
unfolding count Each
none_pass p [] e = tt
none_pass p (g ∷ gs) e = go (p g) refl (none_pass p gs)
  where
    go : (t : Bool) → p g ≡ t → (count p gs ≡ 0 → Each (λ g. p g ≡ false) gs) → (p g ≡ false) × Each (λ g. p g ≡ false) gs
    go true q r = absurd (let x : 1 + count p gs ≡ 0 = rw q at e in omega arith)
    go false q r = let x : 0 + count p gs ≡ 0 = rw q at e in (q, r (omega arith))

none-counted : (p : ℕ → Bool) (gs : List ℕ) → Each (λ g. p g ≡ false) gs → count p gs ≡ 0
unfolding count Each
none-counted p [] e = refl
none-counted p (g ∷ gs) (e, es) = rw e (omega (arith, none-counted p gs es))

module _ (s : ℤ) (ss : List ℤ) where
  all_more : (gs : List ℕ) → Each Byte gs → Each (λ g. is_lost s g ≡ false) gs → Each (Kept Saturating ss) (map (adjust Saturating s) gs) → Each (Kept Saturating (s ∷ ss)) gs
  unfolding Each
  all_more [] b e k = tt
  all_more (g ∷ gs) (b, bs) (e, es) (k, ks) = (kept_more s ss g b e k, all_more gs bs es ks)

  all-less : (gs : List ℕ) → Each Byte gs → Each (Kept Saturating (s ∷ ss)) gs → Each (λ g. is_lost s g ≡ false) gs × Each (Kept Saturating ss) (map (adjust Saturating s) gs)
  unfolding Each
  all-less [] b k = (tt, tt)
  all-less (g ∷ gs) (b, bs) (k, ks) =
      let (e, k') = kept_less s ss g b k in
      let (es, ks') = all-less gs bs ks in
      ((e, es), (k', ks'))

kept-none : (gs : List ℕ) → Each (Kept Saturating []) gs
unfolding Each Kept InRange
kept-none [] = tt
kept-none (g ∷ gs) = (inr (inr tt), kept-none gs)

none-lost-kept : (steps : List ℤ) (gs : List ℕ) → Each Byte gs → NoneLost Saturating steps gs → Each (Kept Saturating steps) gs
unfolding NoneLost
none-lost-kept [] gs b n = kept-none gs
none-lost-kept (s ∷ ss) gs b (z, n) =
    all_more s ss gs b (none_pass (is_lost s) gs z) (none-lost-kept ss (map (adjust Saturating s) gs) (adjusted-bytes Saturating s gs) n)

kept-none-lost : (steps : List ℤ) (gs : List ℕ) → Each Byte gs → Each (Kept Saturating steps) gs → NoneLost Saturating steps gs
unfolding NoneLost
kept-none-lost [] gs b k = tt
kept-none-lost (s ∷ ss) gs b k =
    let (e, k') = all-less s ss gs b k in
    (none-counted (is_lost s) gs e, kept-none-lost ss (map (adjust Saturating s) gs) (adjusted-bytes Saturating s gs) k')

-- under W nothing is lost
wrapped-none-lost : (steps : List ℤ) (gs : List ℕ) → NoneLost Wrapping steps gs
unfolding NoneLost
wrapped-none-lost [] gs = tt
wrapped-none-lost (s ∷ ss) gs = (refl, wrapped-none-lost ss (map (adjust Wrapping s) gs))

wrapped-kept : (steps : List ℤ) (gs : List ℕ) → Each (Kept Wrapping steps) gs
unfolding Each Kept
wrapped-kept steps [] = tt
wrapped-kept steps (g ∷ gs) = (inl refl, wrapped-kept steps gs)

-- the list is back exactly when each gain is kept
module _ (m : GainMode) (steps : List ℤ) where
  kept-all-back : (gs : List ℕ) → Each Byte gs → Each (Kept m steps) gs → map (back m steps) gs ≡ gs
  unfolding Each
  kept-all-back [] b k = refl
  kept-all-back (g ∷ gs) (b, bs) (k, ks) = rw (kept_back m steps g b k, kept-all-back gs bs ks)

  all-back-kept : (gs : List ℕ) → Each Byte gs → map (back m steps) gs ≡ gs → Each (Kept m steps) gs
  unfolding Each
  all-back-kept [] b e = tt
  all-back-kept (g ∷ gs) (b, bs) e =
      let x : back m steps g ≡ g = ap (λ (l : List ℕ). get_or l 0 0) e in
      let xs : map (back m steps) gs ≡ gs = cc in
      (back-kept m steps g b x, all-back-kept gs bs xs)

pub lost-tells : LostTells
unfolding LostTells
lost-tells Saturating steps gs s = (
  λ e. kept-none-lost steps gs (bytes gs s) (all-back-kept Saturating steps gs (bytes gs s) e),
  λ n. kept-all-back Saturating steps gs (bytes gs s) (none-lost-kept steps gs (bytes gs s) n),
)
lost-tells Wrapping steps gs s = (
  λ e. wrapped-none-lost steps gs,
  λ n. kept-all-back Wrapping steps gs (bytes gs s) (wrapped-kept steps gs),
)
