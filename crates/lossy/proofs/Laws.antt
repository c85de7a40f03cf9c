-- Laws of `lossy`.
use Prim.Native.Nat.{ℕ, zero, suc, ◌≤◌}
use native.Mathlib.Omega.{arith}
use mathlib.Core.Path.{◌≡◌, refl, sym, ap, ◌∙◌}
use mathlib.Core.Bool.{true, and-eq-true_iff}
use mathlib.Core.List.{List, [], ◌∷◌, ◌++◌, append-nil}
use lib.ListN.{length, drop}
use lib.Seq.{take-append-le}
use Rattle.lists.specs.Bytes.{all, Small}
use Rattle.utf8.specs.declared.Part.{Part}
use Rattle.utf8.specs.declared.Part.TheVariants.{Good, Bad, End}
use Rattle.utf8.specs.Utf8.{number_of, class_at, run, step_of, size, after, whole, valid_from, valid}
use Rattle.utf8.proofs.Laws.{step-moves, char, char_is, char-front, rejoin, drop-moves, valid-good}
use Rattle.lossy.specs.Lossy.{mark, text_of, lossy_from, lossy}
use Rattle.lossy.proofs.Lists.{small-nil, small-append, small-take, small_all}

-- ---- steps one after the other

lossy-skip : (k : ℕ) (s : List ℕ) → lossy_from k s ≡ lossy_from 0 (drop k s)
unfolding lossy_from
lossy-skip zero s = refl
lossy-skip (suc k) [] = refl
lossy-skip (suc k) (b ∷ s) = lossy-skip k s

-- the first part, and then the rest
pub lossy-turn : (s : List ℕ) → lossy s ≡ text_of (step_of s) s ++ lossy (drop (size (step_of s)) s)
unfolding lossy lossy_from
lossy-turn [] = unfold step_of in refl
lossy-turn (b ∷ s) =
    ap (λ (l : List ℕ). text_of (step_of (b ∷ s)) (b ∷ s) ++ l)
    (lossy-skip (after (size (step_of (b ∷ s)))) s ∙ ap (lossy_from 0) (drop-moves (size (step_of (b ∷ s))) b s (step-moves b s)))

-- a valid front stands as it is, whatever stands behind it
lossy-front : (a : List ℕ) (k : ℕ) (t : List ℕ) → valid_from k a ≡ true → k ≤ length a → lossy_from k (a ++ t) ≡ drop k a ++ lossy_from 0 t
unfolding lossy_from valid_from
lossy-front [] zero t v h = refl
lossy-front [] (suc k) t v h = absurd (omega arith)
lossy-front (b ∷ a) (suc k) t v h = lossy-front a k t v (omega arith)
lossy-front (b ∷ a) zero t v h =
    let (w, r) = (and-eq-true_iff (whole (step_of (b ∷ a))) _).0 v in
    let x = char b a w in
    let rest : valid_from x.n a ≡ true = rw (char_is x) at r in
    let tail : lossy_from x.n (a ++ t) ≡ drop x.n a ++ lossy_from 0 t = lossy-front a x.n t rest x.fits in
    rw (char-front x t, take-append-le x.n a t x.fits, tail) (ap (λ (l : List ℕ). b ∷ l) (rejoin x.n a (lossy_from 0 t)))

-- ---- the laws

-- what is valid stands as it is, in front of anything
pub lossy-append : (a t : List ℕ) → valid a ≡ true → lossy (a ++ t) ≡ a ++ lossy t
unfolding lossy valid
lossy-append a t v = lossy-front a 0 t v (omega arith)

-- valid text converts to itself
pub lossy-valid : (s : List ℕ) → valid s ≡ true → lossy s ≡ s
lossy-valid s v =
    let nothing : lossy [] ≡ [] = unfold lossy lossy_from in refl in
    let e : lossy (s ++ []) ≡ s ++ lossy [] = lossy-append s [] v in
    rw (nothing, append-nil) at e

module _ (s : List ℕ) (b : ℕ) where
  -- a step's text is valid in front of what is valid
  valid-text : (x : Part) → step_of (b ∷ s) ≡ x → (t : List ℕ) → valid_from 0 t ≡ true → valid_from 0 (text_of x (b ∷ s) ++ t) ≡ true
  unfolding valid_from
  valid-text (Good n) e t v = valid-good s b n e t v
  valid-text (Bad n) e t v = unfold step_of run class_at number_of in v
  valid-text End e t v = v

valid-lossy_from : (s : List ℕ) (k : ℕ) → valid_from 0 (lossy_from k s) ≡ true
unfolding lossy_from
valid-lossy_from [] k = unfold valid_from in refl
valid-lossy_from (b ∷ s) (suc k) = valid-lossy_from s k
valid-lossy_from (b ∷ s) zero = valid-text s b (step_of (b ∷ s)) refl _ (valid-lossy_from s (after (size (step_of (b ∷ s)))))

-- the result is valid
pub valid-lossy : (s : List ℕ) → valid (lossy s) ≡ true
unfolding valid lossy
valid-lossy s = valid-lossy_from s 0

-- and only valid text converts to itself
pub valid_same : (s : List ℕ) → lossy s ≡ s → valid s ≡ true
valid_same s e = ap valid (sym e) ∙ valid-lossy s

-- converting twice is converting once
pub lossy-lossy : (s : List ℕ) → lossy (lossy s) ≡ lossy s
lossy-lossy s = lossy-valid (lossy s) (valid-lossy s)

-- bytes stay bytes
module _ (s : List ℕ) (b : ℕ) (h : Small (b ∷ s)) where
  small-text : (x : Part) → Small (text_of x (b ∷ s))
  unfolding all
  small-text (Good n) = small-take n (b ∷ s) h
  small-text (Bad n) = small_all mark refl
  small-text End = small-nil

small-lossy_from : (s : List ℕ) (k : ℕ) → Small s → Small (lossy_from k s)
unfolding lossy_from
small-lossy_from [] k h = h
small-lossy_from (b ∷ s) (suc k) h = small-lossy_from s k (λ i. h (suc i))
small-lossy_from (b ∷ s) zero h =
    let x = step_of (b ∷ s) in
    small-append (text_of x (b ∷ s)) _ (small-text s b h x) (small-lossy_from s (after (size x)) (λ i. h (suc i)))

pub lossy-small : (s : List ℕ) → Small s → Small (lossy s)
unfolding lossy
lossy-small s h = small-lossy_from s 0 h
