-- Gain texts and decibels (document 01, "Numbers in tags"). Amounts are exact, in units of 10^-15 dB.
use Rattle.std.specs.Prelude.{ℕ, zero, suc, ◌+◌, ◌*◌, ◌/◌, ◌%◌, Bool, true, false, ◌&&◌, ◌||◌, cond, List, [], ◌∷◌, ◌++◌, length, take, drop, leb, ℤ, pos, negsuc, nat_abs, ◌-ℤ◌, ◌*ℤ◌}
use Rattle.std.specs.Prelude.{Option, None, option_map}
use Rattle.lists.specs.Bytes.{ascii, same}
use Rattle.lists.specs.Choice.{found}
use Rattle.number.specs.Fields.{before, behind}
use Rattle.number.specs.Reading.{natural, is_minus, unsigned, with_sign}
use Rattle.decimal.specs.Writing.{places, decimal, sign_byte}
use Rattle.decibels.specs.declared.Millionths.{Millionths}

-- ---- amounts of decibels

-- how many units of 10^-15 dB an amount has, without its sign
abbrev pub units : Millionths → ℕ
units a = a.1 * 1000000000 + a.2

-- the amount in units, with its sign
abbrev pub exact : Millionths → ℤ
exact a = with_sign a.0 (units a)

-- its own sign, if it has one
abbrev pub sign_or : Bool → ℤ → Bool
sign_or minus (pos zero) = minus
sign_or minus (pos (suc n)) = false
sign_or minus (negsuc n) = true

-- the amount of so many units; zero takes the sign that is handed in
abbrev pub amount : Bool → ℤ → Millionths
amount minus z = record { 0 = sign_or minus z; 1 = nat_abs z / 1000000000; 2 = nat_abs z % 1000000000 }

-- a step is 1.505149978319906 dB
abbrev pub step_units : ℤ → ℤ
step_units steps = steps *ℤ pos 1505149978319906

-- steps as decibels
unfoldable pub steps_to_db : ℤ → Millionths
steps_to_db steps = amount false (step_units steps)

-- a gain less so many steps, exactly; zero keeps the gain's sign
unfoldable pub remaining : ℤ → Millionths → Millionths
remaining steps g = amount g.0 (exact g -ℤ step_units steps)

-- to the nearest millionth; the sign stays
unfoldable pub nearest : Millionths → Millionths
nearest a = record { 0 = a.0; 1 = (units a + 500000000) / 1000000000; 2 = 0 }

-- ---- texts

-- nothing, or ` dB`
abbrev pub is_unit : List ℕ → Bool
is_unit s = same s [] || same s (ascii " dB")

-- behind the point: 6 digits, and nothing or ` dB`
unfoldable pub fraction : List ℕ → Option ℕ
fraction s = cond (leb 6 (length s) && is_unit (drop 6 s)) (natural (take 6 s)) None

-- 1 to 4 digits, a point, and what follows it
unfoldable pub millionths : List ℕ → Option ℕ
millionths s =
    found (behind 0x2E s) None (λ t.
    cond (leb (length (before 0x2E s)) 4)
    (found (natural (before 0x2E s)) None (λ a. option_map (λ b. a * 1000000 + b) (fraction t)))
    None)

-- an optional sign in front
unfoldable pub parse_gain : List ℕ → Option Millionths
parse_gain s = option_map (λ n. record { 0 = is_minus s; 1 = n; 2 = 0 }) (millionths (unsigned s))

-- `{:+.6} dB`, for ten digits before the point at the most
unfoldable pub format_gain : Millionths → List ℕ
format_gain a = sign_byte a.0 ∷ (decimal 1 9 (a.1 / 1000000) ++ (0x2E ∷ (places 6 (a.1 % 1000000) ++ ascii " dB")))

-- the new text; a text of another form stays as found
unfoldable pub shift_gain : ℤ → List ℕ → Option (List ℕ)
shift_gain steps s = option_map (λ g. format_gain (nearest (remaining steps g))) (parse_gain s)
