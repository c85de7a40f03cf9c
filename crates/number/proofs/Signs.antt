-- Laws of integers: taken apart, and their sums by their parts.
use Prim.Native.Nat.{◌+◌, ◌<◌}
use native.Mathlib.Omega.{arith}
use mathlib.Core.Path.{◌≡◌, ap, ◌∙◌}
use lib.IntN.{ℤ, neg_ℤ, ◌+ℤ◌, ◌-ℤ◌}
use mir.Syntax.{w32}
use mir.Val.{SFits, to_z, of_z}
use mir.Facts.{to_z-of_z}
use Rattle.integers.specs.Apart.{apart_of, whole_of}
use Rattle.integers.specs.declared.Apart.{Apart}
use Rattle.integers.proofs.Parts.{up, down, sum-parts, neg-up, neg-down, parts-eq}
use Rattle.integers.proofs.Sign.{whole_apart}

-- a number taken apart is below 2^31, and is the number when put together
pub taken : (z : ℤ) (a : Apart) → SFits w32 z → a ≡ apart_of (to_z w32 (of_z w32 z)) → (a.by < 2147483648) × (whole_of a ≡ z)
taken z a f e = let q : a ≡ apart_of z = e ∙ ap apart_of (to_z-of_z f) in rw q (f.sfits, whole_apart z)

-- z is a + b, by their parts
pub total : (a b z : ℤ) → up z + (down a + down b) ≡ down z + (up a + up b) → a +ℤ b ≡ z
total a b z h = parts-eq (a +ℤ b) z (omega (arith, sum-parts a b))

-- z is a - b, by their parts
pub differ : (a b z : ℤ) → up z + (down a + up b) ≡ down z + (up a + down b) → a -ℤ b ≡ z
differ a b z h = parts-eq (a -ℤ b) z (omega (arith, sum-parts a (neg_ℤ b), neg-up b, neg-down b))
