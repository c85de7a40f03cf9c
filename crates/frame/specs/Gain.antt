-- How a gain moves (document 01, "Numbers in tags", `adjust_gain_value`).
use Rattle.std.specs.Prelude.{ℕ, zero, suc, ◌-◌, ◌%◌, min, Bool, true, false, ℤ, pos, negsuc, ◌+ℤ◌}
use Rattle.frame.specs.declared.GainMode.{GainMode}
use Rattle.frame.specs.declared.GainMode.TheVariants.{Saturating, Wrapping}

-- the flag W wraps, N saturates
abbrev pub mode_of : Bool → GainMode
mode_of true = Wrapping
mode_of false = Saturating

-- steps within -255..255
abbrev pub clamp_step : ℤ → ℤ
clamp_step (pos n) = pos (min 255 n)
clamp_step (negsuc n) = negsuc (min 254 n)

-- a number within 0..255
abbrev pub clamp_gain : ℤ → ℕ
clamp_gain (pos n) = min 255 n
clamp_gain (negsuc n) = 0

-- what is left modulo 256: of -1 it is 255
abbrev pub residue : ℤ → ℕ
residue (pos n) = n % 256
residue (negsuc n) = 255 - n % 256

-- N leaves 0 at 0, clamps the steps, then the result; W adds modulo 256
unfoldable pub adjust : GainMode → ℤ → ℕ → ℕ
adjust Saturating s zero = 0
adjust Saturating s (suc g) = clamp_gain (pos (suc g) +ℤ clamp_step s)
adjust Wrapping s g = residue (pos g +ℤ s)
