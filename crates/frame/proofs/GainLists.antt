-- A list of gains: the adjustment goes over each, and undo brings a gain back exactly when that gain alone is kept.
use mathlib.Core.Path.{◌≡◌, refl, sym, ap, ◌∙◌}
use mathlib.Core.Logic.{◌↔◌}
use mathlib.Core.List.{List, [], ◌∷◌, ◌++◌, map, map-map, map-id}
use Prim.Native.Nat.{ℕ, zero, suc, ◌<◌}
use native.Mathlib.Omega.{arith}
use lib.IntN.{ℤ, neg_ℤ}
use lib.ListN.{length, get_or, length-map}
use lib.Seq.{ext_get_or}
use Rattle.frame.specs.declared.GainMode.{GainMode}
use Rattle.frame.specs.Gain.{adjust}
use Rattle.frame.specs.Steps.{after, sum, back, Kept}
use Rattle.frame.proofs.Gains.{back-exactly}

-- the gains after one step count after another
unfoldable pub after_all : GainMode → List ℤ → List ℕ → List ℕ
after_all m [] gs = gs
after_all m (s ∷ ss) gs = after_all m ss (map (adjust m s) gs)

-- and then moved by minus their sum
unfoldable pub back_all : GainMode → List ℤ → List ℕ → List ℕ
back_all m steps gs = map (adjust m (neg_ℤ (sum steps))) (after_all m steps gs)

pub after_all-is : (m : GainMode) (steps : List ℤ) (gs : List ℕ) → after_all m steps gs ≡ map (after m steps) gs
unfolding after_all after
after_all-is m [] gs = sym (map-id gs)
after_all-is m (s ∷ ss) gs = after_all-is m ss (map (adjust m s) gs) ∙ map-map (after m ss) (adjust m s) gs

pub back_all-is : (m : GainMode) (steps : List ℤ) (gs : List ℕ) → back_all m steps gs ≡ map (back m steps) gs
unfolding back_all back
back_all-is m steps gs = ap (map (adjust m (neg_ℤ (sum steps)))) (after_all-is m steps gs) ∙ map-map (adjust m (neg_ℤ (sum steps))) (after m steps) gs

pub get_d_map : (f : ℕ → ℕ) (l : List ℕ) (i : ℕ) → i < length l → get_or (map f l) i 0 ≡ f (get_or l i 0)
get_d_map f [] i h = absurd (omega arith)
get_d_map f (x ∷ xs) zero h = refl
get_d_map f (x ∷ xs) (suc i) h = get_d_map f xs i (omega arith)

pub length-back_all : (m : GainMode) (steps : List ℤ) (gs : List ℕ) → length (back_all m steps gs) ≡ length gs
length-back_all m steps gs = ap length (back_all-is m steps gs) ∙ length-map gs (back m steps)

pub each_back : (m : GainMode) (steps : List ℤ) (gs : List ℕ) (i : ℕ) → i < length gs → get_or gs i 0 < 256
    → (get_or (back_all m steps gs) i 0 ≡ get_or gs i 0) ↔ Kept m steps (get_or gs i 0)
each_back m steps gs i h b = rw (back_all-is, get_d_map) (back-exactly m steps (get_or gs i 0) b)

-- the whole list
pub all_back : (m : GainMode) (steps : List ℤ) (gs : List ℕ) → ((i : ℕ) → i < length gs → get_or gs i 0 < 256)
    → (back_all m steps gs ≡ gs) ↔ ((i : ℕ) → i < length gs → Kept m steps (get_or gs i 0))
all_back m steps gs b = (
  λ e i h. (each_back m steps gs i h (b i h)).0 (ap (λ l. get_or l i 0) e),
  λ k. ext_get_or 0 (back_all m steps gs) gs (length-back_all m steps gs)
      (λ i h. let h' : i < length gs = rw length-back_all at h in (each_back m steps gs i h' (b i h')).1 (k i h')),
)

-- one more call at the end: what an invariant over a run needs
pub after_all-snoc : (m : GainMode) (steps : List ℤ) (s : ℤ) (gs : List ℕ) → after_all m (steps ++ (s ∷ [])) gs ≡ map (adjust m s) (after_all m steps gs)
unfolding after_all
after_all-snoc m [] s gs = refl
after_all-snoc m (t ∷ ts) s gs = after_all-snoc m ts s (map (adjust m t) gs)
