-- Range texts (document 01, "Numbers in tags").
use Rattle.std.specs.Prelude.{ℕ, Bool, false, not, ◌||◌, List, ◌∷◌, ◌++◌, ℤ, ◌+ℤ◌}
use Rattle.std.specs.Prelude.{Option, None, Some, option_map}
use Rattle.lists.specs.Choice.{found}
use Rattle.number.specs.Fields.{before, behind}
use Rattle.number.specs.Reading.{is_u8, i32, u8}
use Rattle.decimal.specs.Writing.{places}
use Rattle.frame.specs.declared.GainMode.TheVariants.{Saturating}
use Rattle.frame.specs.Gain.{adjust}
use Rattle.values.specs.declared.Range.{Range}

-- two numbers of three digits
unfoldable pub format_range : Range → List ℕ
format_range r = places 3 r.least ++ (0x2C ∷ places 3 r.greatest)

-- two bytes' numbers, all before and all after the first comma
unfoldable pub parse_range : List ℕ → Option Range
parse_range s =
    found (behind 0x2C s) None (λ t.
    found (u8 (before 0x2C s)) None (λ a.
    found (u8 t) None (λ b.
    Some (record { least = a; greatest = b }))))

-- shifted as under N, whichever flag is given
abbrev pub shifted : ℤ → Range → Range
shifted steps r = record { least = adjust Saturating steps r.least; greatest = adjust Saturating steps r.greatest }

-- the new text; a text that does not parse stays as found
unfoldable pub shift_range : ℤ → List ℕ → Option (List ℕ)
shift_range steps s = option_map (λ r. format_range (shifted steps r)) (parse_range s)

-- a field that parses and leaves 0..255, by the exact sum
unfoldable pub leaves : ℤ → List ℕ → Bool
leaves steps s = found (i32 s) false (λ z. not (is_u8 (z +ℤ steps)))

-- one field that leaves is enough
unfoldable pub wraps_out : ℤ → List ℕ → Bool
wraps_out steps s = found (behind 0x2C s) false (λ t. leaves steps (before 0x2C s) || leaves steps t)
