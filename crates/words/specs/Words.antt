-- The words of a line: the next one, and the numbers and bytes in them.
use Rattle.std.specs.Prelude.{ℕ, zero, suc, ◌+◌, ◌-◌, ◌*◌, ◌%◌, ◌^◌, min, cond, List, [], ◌∷◌, length, drop, ltb, eqb, ℤ, pos, negsuc, Option, None, Some}
use Rattle.lists.specs.Bytes.{among, place_of}
use Rattle.lists.specs.Choice.{found, provided}

-- the place behind the first c from at, or the end of s where there is none
abbrev pub behind : ℕ → List ℕ → ℕ → ℕ
behind c s at = min (at + place_of c (drop at s) + 1) (length s)

-- what a hex digit stands for
abbrev pub digit : ℕ → Option ℕ
digit x = cond (among 0x30 0x39 x) (Some (x - 0x30)) (cond (among 0x61 0x66 x) (Some (x - 0x57)) None)

-- the number whose digits stand in front, behind those that gave n
unfoldable pub number : ℕ → ℕ → List ℕ → ℕ
number base n [] = n
number base n (x ∷ s) = found (provided (λ (d : ℕ). ltb d base) (digit x)) n (λ d. number base (n * base + d) s)

-- a decimal number by its last 19 digits
abbrev pub unsigned_of : List ℕ → ℕ
unsigned_of s = number 10 0 s % 10 ^ 19

-- n below zero, by its last 31 bits
abbrev pub below : ℕ → ℤ
below zero = pos 0
below (suc n) = negsuc (n % 2147483648)

-- the same number, which may have a `-` in front
unfoldable pub signed_of : List ℕ → ℤ
signed_of [] = pos 0
signed_of (x ∷ s) = cond (eqb x 0x2D) (below (unsigned_of s)) (pos (unsigned_of (x ∷ s) % 2147483648))

-- the byte of two hex digits
abbrev pub byte_of : Option ℕ → Option ℕ → Option ℕ
byte_of None l = None
byte_of (Some h) None = None
byte_of (Some h) (Some l) = Some (h * 16 + l)

-- the byte whose two hex digits stand in front
abbrev pub hex_byte : List ℕ → Option ℕ
hex_byte [] = None
hex_byte (h ∷ []) = None
hex_byte (h ∷ l ∷ s) = byte_of (digit h) (digit l)

-- all bytes whose two hex digits stand in front
unfoldable pub hex_bytes : List ℕ → List ℕ
hex_bytes [] = []
hex_bytes (h ∷ []) = []
hex_bytes (h ∷ l ∷ s) = found (byte_of (digit h) (digit l)) [] (λ b. b ∷ hex_bytes s)
