-- An MP3 and a list of level calls that meet the claim's terms: accepted calls, and a refused one.
use Rattle.std.specs.Prelude.{Option, None, Some}
use Rattle.std.specs.Prelude.{ℕ, List, [], ◌∷◌, ◌++◌, replicate, ℤ, pos, negsuc}
use Rattle.frame.specs.declared.GainMode.{GainMode}
use Rattle.frame.specs.declared.GainMode.TheVariants.{Saturating, Wrapping}
use Rattle.layer3.specs.Figures.{mono2}
use Rattle.sound_reversal.specs.Run.{Asked}

-- the shortest frame, gain 80, and 160 bytes of silence
unfoldable pub start : List ℕ
start = mono2 ++ replicate 160 0

-- a call by the same steps on both sides, with an output of 1,000 bytes
abbrev pub asking : ℤ → Option GainMode → Asked
asking steps mode = record { wish = record { left = record { 0 = steps }; right = record { 0 = steps }; mode = mode }; room = 1000 }

-- 5 under N; 1 under W, which is refused for its flag; -3, with no mode named
unfoldable pub calls : List Asked
calls = asking (pos 5) (Some Saturating) ∷ asking (pos 1) (Some Wrapping) ∷ asking (negsuc 2) None ∷ []

-- ---- why no gain field may reach into the last 160 audio bytes

-- 1 under N
unfoldable pub one : List Asked
one = asking (pos 1) (Some Saturating) ∷ []

-- 134 bytes whose gain 80, moved to 81, completes `TAG` 128 bytes before the end
unfoldable pub unclear : List ℕ
unclear = 0xFF ∷ 0xF3 ∷ 0x14 ∷ 0xC0 ∷ 0 ∷ 0 ∷ 0x54 ∷ 0x41 ∷ 0x43 ∷ replicate 125 0
