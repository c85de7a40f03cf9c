-- Laws of `place_of` and `part`: places found by a loop, and parts between places.
use Prim.Native.Nat.{ℕ, suc, ◌+◌, ◌-◌, ◌≤◌, ◌<◌}
use native.Mathlib.Omega.{arith}
use native.Mathlib.Numerals.{add-one}
use native.Mathlib.Nat.{suc_inj}
use mathlib.Core.Path.{◌≡◌, refl, sym, ap, ◌∙◌}
use mathlib.Core.Bool.{Bool, true, false, cond}
use mathlib.Core.List.{List, [], ◌∷◌, ◌++◌}
use lib.ListN.{length, take, drop, get_or, length-append, length-drop, drop_of_length-le}
use lib.Seq.{drop-cons, take_at, drop_at, length-take-le, get_or-drop}
use lib.Dec.{eqb}
use borrow.Author.Tests.{eq-eqb, ne_eqb}
use Rattle.lists.specs.Bytes.{Small, place_of}
use Rattle.lists.specs.Write.{part}

-- ---- a loop that looks for c, at i

pub place-hit : (c : ℕ) (s : List ℕ) (i : ℕ) → i < length s → get_or s i 0 ≡ c → place_of c (drop i s) ≡ 0
unfolding place_of
place-hit c s i h e = rw (drop-cons s i 0 h, eq-eqb (get_or s i 0) c e)

pub place-miss : (c : ℕ) (s : List ℕ) (i : ℕ) → i < length s → (get_or s i 0 ≡ c → ⊥) → place_of c (drop i s) ≡ suc (place_of c (drop (i + 1) s))
unfolding place_of
place-miss c s i h e = rw (drop-cons s i 0 h, ne_eqb (get_or s i 0) c e, add-one)

pub place_end : (c : ℕ) (s : List ℕ) (i : ℕ) → length s ≤ i → place_of c (drop i s) ≡ 0
unfolding place_of
place_end c s i h = rw (drop_of_length-le s {i = i} h)

-- a search for c from `at` has come to i: the first from `at` is the first from i
abbrev pub CameTo : ℕ → List ℕ → ℕ → ℕ → Type 0
CameTo c s at i = at + place_of c (drop at s) ≡ i + place_of c (drop i s)

-- c is there, or the search goes on behind it
pub place_here : (c : ℕ) (s : List ℕ) (at i : ℕ) → CameTo c s at i → i < length s → get_or s i 0 ≡ c → i ≡ at + place_of c (drop at s)
place_here c s at i e h t = omega (arith, e, place-hit c s i h t)

pub place-next : (c : ℕ) (s : List ℕ) (at i : ℕ) → CameTo c s at i → i < length s → (get_or s i 0 ≡ c → ⊥) → CameTo c s at (i + 1)
place-next c s at i e h t = omega (arith, e, place-miss c s i h t)

-- the same place, written otherwise
pub place_same : (c : ℕ) (s : List ℕ) (at : ℕ) {i j : ℕ} → i ≡ j → CameTo c s at i → CameTo c s at j
place_same c s at e h = h ∙ ap (λ (n : ℕ). n + place_of c (drop n s)) e

-- ---- what a place is

pub place-within : (c : ℕ) (s : List ℕ) → place_of c s ≤ length s
unfolding place_of
place-within c [] = omega arith
place-within c (x ∷ s) = go (eqb x c) (place-within c s)
  where
    go : (t : Bool) → place_of c s ≤ length s → cond t 0 (suc (place_of c s)) ≤ suc (length s)
    go true h = omega arith
    go false h = omega arith

-- behind a part without c, c stands at its end
pub place-behind : (c : ℕ) (k s : List ℕ) → place_of c k ≡ length k → place_of c (k ++ (c ∷ s)) ≡ length k
unfolding place_of
place-behind c [] s e = rw (eq-eqb c c refl)
place-behind c (x ∷ k) s e = go (eqb x c) e (place-behind c k s)
  where
    go : (t : Bool) → cond t 0 (suc (place_of c k)) ≡ suc (length k) → (place_of c k ≡ length k → place_of c (k ++ (c ∷ s)) ≡ length k)
        → cond t 0 (suc (place_of c (k ++ (c ∷ s)))) ≡ suc (length k)
    go true e ih = absurd (omega arith)
    go false e ih = ap suc (ih (suc_inj e))

-- ---- parts

pub length_part : (from to : ℕ) (s : List ℕ) → to ≤ length s → length (part from to s) ≡ to - from
length_part from to s h = length-take-le (to - from) (drop from s) (rw length-drop (omega arith))

pub part-is : (x p y : List ℕ) (from to : ℕ) → length x ≡ from → length (x ++ p) ≡ to → part from to (x ++ (p ++ y)) ≡ p
part-is x p y from to e f =
    let l : length x + length p ≡ to = sym (length-append x p) ∙ f in
    ap (λ (r : List ℕ). take (to - from) r) (drop_at x (p ++ y) from e) ∙ take_at p y (to - from) (omega arith)

-- the rest of a list of bytes is one
pub small-drop : (s : List ℕ) (at : ℕ) → Small s → Small (drop at s)
small-drop s at b i = rw get_or-drop (b (at + i))
