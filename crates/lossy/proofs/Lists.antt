-- Lists of bytes: what is put together from them, or cut from them, is one.
use Prim.Native.Nat.{ℕ, zero, suc, ◌<◌}
use native.Mathlib.Omega.{arith}
use mathlib.Core.Path.{◌≡◌}
use mathlib.Core.Bool.{true, and-eq-true_iff}
use mathlib.Core.List.{List, [], ◌∷◌, ◌++◌}
use lib.Dec.{ltb}
use lib.ListN.{take}
use borrow.Author.Tests.{ltb-true}
use Rattle.lists.specs.Bytes.{all, Small}

pub small-nil : Small []
small-nil i = omega arith

pub small-cons : (b : ℕ) (s : List ℕ) → b < 256 → Small s → Small (b ∷ s)
small-cons b s h x zero = h
small-cons b s h x (suc i) = x i

pub small-append : (a b : List ℕ) → Small a → Small b → Small (a ++ b)
small-append [] b x y = y
small-append (c ∷ a) b x y = small-cons c (a ++ b) (x 0) (small-append a b (λ i. x (suc i)) y)

pub small-take : (n : ℕ) (s : List ℕ) → Small s → Small (take n s)
small-take zero s x = small-nil
small-take (suc n) [] x = small-nil
small-take (suc n) (b ∷ s) x = small-cons b (take n s) (x 0) (small-take n s (λ i. x (suc i)))

-- a list that is written out: by computing the test
pub small_all : (s : List ℕ) → all (λ (b : ℕ). ltb b 256) s ≡ true → Small s
unfolding all
small_all [] e = small-nil
small_all (b ∷ s) e = let (p, q) = (and-eq-true_iff (ltb b 256) _).0 e in small-cons b s (ltb-true b 256 p) (small_all s q)
