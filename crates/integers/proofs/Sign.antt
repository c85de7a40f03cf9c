-- A signed number by its sign and its size.
use mathlib.Core.Path.{◌≡◌, refl}
use mathlib.Core.Bool.{Bool, true, false}
use Prim.Native.Nat.{zero-le}
use lib.IntN.{ℤ, pos, negsuc}
use borrow.Author.Tests.{le-ltb}
use Rattle.integers.specs.Apart.{apart_of, whole_of}

-- what was taken apart is put together again
pub whole_apart : (z : ℤ) → whole_of (apart_of z) ≡ z
whole_apart (pos n) = rw (le-ltb n 0 zero-le)
whole_apart (negsuc n) = refl

-- by cases on a test, with the equation that each case is
pub cases : (b : Bool) {X : Type 0} → (b ≡ true → X) → (b ≡ false → X) → X
cases true t f = t refl
cases false t f = f refl
