-- Laws of sums and differences of integers: held within 32 bits, and outside 0..255.
use native.Mathlib.Omega.{arith}
use mathlib.Core.Path.{◌≡◌, refl, ap}
use mathlib.Core.Bool.{not, ◌||◌}
use lib.IntN.{ℤ, pos, negsuc}
use lib.Signed.{lt_z}
use mir.Syntax.{w32}
use Rattle.std.specs.Int.{saturate_signed}
use Rattle.std.proofs.lemmas.Bool.Decides.{nat_tests}
use Rattle.number.specs.Reading.{is_u8}
use Rattle.values.specs.Undo.{sat32}

-- a number held within 32 bits, as std has it
pub saturated : (z : ℤ) → saturate_signed w32 z ≡ sat32 z
saturated (pos n) = ap pos (omega arith)
saturated (negsuc n) = ap negsuc (omega arith)

-- the two tests of a number outside 0..255
pub out_of_range : (z : ℤ) → (lt_z z (pos 0) || lt_z (pos 255) z) ≡ not (is_u8 z)
out_of_range (pos n) = grind (arith, nat_tests)
out_of_range (negsuc n) = refl
