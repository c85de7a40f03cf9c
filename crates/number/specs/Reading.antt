-- Whole numbers read from a text (document 01, "Numbers in tags").
use Rattle.std.specs.Prelude.{ℕ, ◌+◌, ◌-◌, ◌*◌, Bool, true, false, ◌||◌, cond, List, [], ◌∷◌, ltb, leb, eqb, ℤ, pos, negsuc, neg_ℤ}
use Rattle.std.specs.Prelude.{Option, None, Some, option_map}
use Rattle.std.specs.Int.Signed.{mag}
use Rattle.lists.specs.Bytes.{among}
use Rattle.lists.specs.Choice.{provided}
use Rattle.number.specs.Trim.{trim}

-- 0 to 9
unfoldable pub is_digit : ℕ → Bool
is_digit x = among 0x30 0x39 x

-- digits read behind those that gave n; none at any other byte
unfoldable pub digits_from : ℕ → List ℕ → Option ℕ
digits_from n [] = Some n
digits_from n (x ∷ s) = cond (is_digit x) (digits_from (10 * n + (x - 0x30)) s) None

-- one digit at least
unfoldable pub natural : List ℕ → Option ℕ
natural [] = None
natural (x ∷ s) = digits_from 0 (x ∷ s)

-- is there a `-` in front?
unfoldable pub is_minus : List ℕ → Bool
is_minus [] = false
is_minus (x ∷ s) = eqb x 0x2D

-- what follows the sign, if there is one
unfoldable pub unsigned : List ℕ → List ℕ
unsigned [] = []
unsigned (x ∷ s) = cond (eqb x 0x2B || eqb x 0x2D) s (x ∷ s)

-- n below zero, or n
abbrev pub with_sign : Bool → ℕ → ℤ
with_sign true n = neg_ℤ (pos n)
with_sign false n = pos n

-- an optional sign, and digits
unfoldable pub whole : List ℕ → Option ℤ
whole s = option_map (with_sign (is_minus s)) (natural (unsigned s))

-- does z fit 32 bits with a sign?
abbrev pub is_i32 : ℤ → Bool
is_i32 z = ltb (mag z) 2147483648

-- does z lie in 0..255?
abbrev pub is_u8 : ℤ → Bool
is_u8 (pos n) = ltb n 256
is_u8 (negsuc n) = false

-- a number field of an undo text
unfoldable pub i32 : List ℕ → Option ℤ
i32 s = provided is_i32 (whole (trim s))

-- a number field of a range; `-` is no sign here, so `-0` does not parse
unfoldable pub u8 : List ℕ → Option ℕ
u8 s = cond (is_minus (trim s)) None (provided (λ n. leb n 255) (natural (unsigned (trim s))))
