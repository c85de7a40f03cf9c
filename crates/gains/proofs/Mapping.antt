-- A loop that changes each element of a list in its place.
use Prim.Native.Nat.{ℕ, zero, suc, ◌+◌, ◌≤◌, ◌<◌}
use native.Mathlib.Numerals.{add-one}
use native.Mathlib.Nat.{le_of_suc-le-suc, not-suc-le-zero}
use mathlib.Core.Path.{◌≡◌, refl, ap}
use mathlib.Core.List.{List, [], ◌∷◌, ◌++◌, map, append-nil}
use lib.ListN.{length, take, drop, get_or, set, drop_of_length-le}
use lib.Seq.{take_all}

-- the first i elements are changed
abbrev pub mapped : (ℕ → ℕ) → ℕ → List ℕ → List ℕ
mapped f i l = map f (take i l) ++ drop i l

mapped-suc : (f : ℕ → ℕ) (i : ℕ) (l : List ℕ) → i < length l → set (mapped f i l) i (f (get_or l i 0)) ≡ mapped f (suc i) l
mapped-suc f i [] h = absurd (not-suc-le-zero h)
mapped-suc f zero (x ∷ l) h = refl
mapped-suc f (suc i) (x ∷ l) h = ap (λ (r : List ℕ). f x ∷ r) (mapped-suc f i l (le_of_suc-le-suc h))

-- one more
pub mapped-more : (f : ℕ → ℕ) (i : ℕ) (l : List ℕ) → i < length l → set (mapped f i l) i (f (get_or l i 0)) ≡ mapped f (i + 1) l
mapped-more f i l h = rw add-one (mapped-suc f i l h)

-- what is not changed yet
pub mapped_at : (f : ℕ → ℕ) (i : ℕ) (l : List ℕ) → i < length l → get_or (mapped f i l) i 0 ≡ get_or l i 0
mapped_at f i [] h = absurd (not-suc-le-zero h)
mapped_at f zero (x ∷ l) h = refl
mapped_at f (suc i) (x ∷ l) h = mapped_at f i l (le_of_suc-le-suc h)

-- all
pub mapped-all : (f : ℕ → ℕ) (i : ℕ) (l : List ℕ) → length l ≤ i → mapped f i l ≡ map f l
mapped-all f i l h = rw (take_all i l h, drop_of_length-le l {i = i} h, append-nil)
