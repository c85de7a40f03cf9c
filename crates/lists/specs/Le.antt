-- Numbers of four bytes, the least first, as the APEv2 specification has all its numbers.
use Rattle.std.specs.Prelude.{ℕ, ◌+◌, ◌*◌, ◌/◌, ◌%◌, List, [], ◌∷◌, get_or}

-- the four bytes of n
abbrev pub u32le : ℕ → List ℕ
u32le n = n % 256 ∷ n / 256 % 256 ∷ n / 256 / 256 % 256 ∷ n / 256 / 256 / 256 % 256 ∷ []

-- the number whose four bytes stand in s from i; a byte past the end counts as 0
abbrev pub read_u32 : List ℕ → ℕ → ℕ
read_u32 s i = get_or s i 0 + get_or s (i + 1) 0 * 256 + get_or s (i + 2) 0 * 65536 + get_or s (i + 3) 0 * 16777216
