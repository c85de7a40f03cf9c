-- Laws of the least and the greatest of a list, one element after another.
use Prim.Native.Nat.{ℕ, ◌+◌, ◌≤◌, ◌<◌, min, max}
use native.Mathlib.Omega.{arith}
use native.Mathlib.Numerals.{add-one}
use mathlib.Core.Path.{◌≡◌}
use mathlib.Core.List.{List, [], ◌∷◌, ◌++◌, map}
use lib.ListN.{length, drop, get_or, drop_of_length-le}
use lib.Seq.{drop-cons}
use Rattle.calls.specs.Calls.{least, greatest}

module _ (f : ℕ → ℕ) (gs : List ℕ) (i : ℕ) where
  pub least_more : i < length gs → least (map f (drop i gs)) ≡ min (f (get_or gs i 0)) (least (map f (drop (i + 1) gs)))
  unfolding least
  least_more h = rw (add-one, drop-cons gs i 0 h)

  pub greatest-more : i < length gs → greatest (map f (drop i gs)) ≡ max (f (get_or gs i 0)) (greatest (map f (drop (i + 1) gs)))
  unfolding greatest
  greatest-more h = rw (add-one, drop-cons gs i 0 h)

  pub least-end : length gs ≤ i → least (map f (drop i gs)) ≡ 255
  unfolding least
  least-end h = rw (drop_of_length-le gs {i = i} h)

  pub greatest-end : length gs ≤ i → greatest (map f (drop i gs)) ≡ 0
  unfolding greatest
  greatest-end h = rw (drop_of_length-le gs {i = i} h)

pub least-small : (gs : List ℕ) → least gs ≤ 255
unfolding least
least-small [] = omega arith
least-small (g ∷ gs) = omega (arith, least-small gs)

pub least-append : (gs hs : List ℕ) → least (gs ++ hs) ≡ min (least gs) (least hs)
unfolding least
least-append [] hs = omega (arith, least-small hs)
least-append (g ∷ gs) hs = omega (arith, least-append gs hs)

pub greatest-append : (gs hs : List ℕ) → greatest (gs ++ hs) ≡ max (greatest gs) (greatest hs)
unfolding greatest
greatest-append [] hs = omega arith
greatest-append (g ∷ gs) hs = omega (arith, greatest-append gs hs)
