-- The digest of many answers in one number.
use Rattle.std.specs.Prelude.{ℕ, ◌*◌, ◌%◌, ◌^◌, bit_xor}

-- FNV-1a of 64 bits: one more byte
abbrev pub digest_of : ℕ → ℕ → ℕ
digest_of h b = bit_xor h b * 0x100000001B3 % 2 ^ 64
