-- An integer by its sign and its size.
use Rattle.std.specs.Prelude.{Bool, true, false, ℕ, ℤ, pos, negsuc}
use Rattle.std.specs.Int.Signed.{mag, lt_z}
use Rattle.integers.specs.declared.Apart.{Apart}

-- down by one more than n, or up by n
abbrev pub signed : Bool → ℕ → ℤ
signed true n = negsuc n
signed false n = pos n

-- an integer taken apart: `mag` is n of `pos n` and of `negsuc n`
abbrev pub apart_of : ℤ → Apart
apart_of z = record { down = lt_z z (pos 0); by = mag z }

-- an integer put together again
abbrev pub whole_of : Apart → ℤ
whole_of a = signed a.down a.by
