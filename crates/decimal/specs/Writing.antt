-- Whole numbers written (document 01, "Numbers in tags").
use Rattle.std.specs.Prelude.{ℕ, zero, suc, ◌+◌, ◌/◌, ◌%◌, ◌^◌, Bool, true, false, cond, List, [], ◌∷◌, ◌++◌, length, replicate, ltb, ℤ, pos, negsuc, nat_abs}
use Rattle.lists.specs.Write.{over}
use Rattle.decimal.specs.declared.Text.{Text}

-- the last k digits of n
unfoldable pub places : ℕ → ℕ → List ℕ
places zero n = []
places (suc k) n = places k (n / 10) ++ ((0x30 + n % 10) ∷ [])

-- k digits, or as many more (m at the most) as n has
unfoldable pub decimal : ℕ → ℕ → ℕ → List ℕ
decimal k zero n = places k n
decimal k (suc m) n = cond (ltb n (10 ^ k)) (places k n) (decimal (suc k) m n)

-- `-` or `+`
abbrev pub sign_byte : Bool → ℕ
sign_byte minus = cond minus 0x2D 0x2B

-- is z below zero?
abbrev pub is_negative : ℤ → Bool
is_negative (pos n) = false
is_negative (negsuc n) = true

-- `{:+04}`, for numbers of ten digits at the most
unfoldable pub signed : ℤ → List ℕ
signed z = sign_byte (is_negative z) ∷ decimal 3 7 (nat_abs z)

-- a text of at most 32 bytes, as code hands it out
abbrev pub text_of : List ℕ → Text
text_of w = record { bytes = over w (replicate 32 0); len = length w }
