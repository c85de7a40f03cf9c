-- Undo texts (document 01, "Numbers in tags").
use Rattle.std.specs.Prelude.{ℕ, min, Bool, true, false, List, [], ◌∷◌, ◌++◌, ℤ, pos, negsuc, ◌-ℤ◌}
use Rattle.std.specs.Prelude.{unwrap_or}
use Rattle.lists.specs.Bytes.{ascii}
use Rattle.number.specs.Trim.{trim}
use Rattle.number.specs.Fields.{field}
use Rattle.number.specs.Reading.{i32}
use Rattle.decimal.specs.Writing.{signed}
use Rattle.keys.specs.Keys.{same_key}
use Rattle.values.specs.declared.UndoValues.{UndoValues}

-- W or N
abbrev pub flag_byte : Bool → ℕ
flag_byte true = 0x57
flag_byte false = 0x4E

-- `{:+04},{:+04},W|N`
unfoldable pub format_undo : ℤ → ℤ → Bool → List ℕ
format_undo l r wrap = signed l ++ (0x2C ∷ (signed r ++ (0x2C ∷ flag_byte wrap ∷ [])))

-- left that does not parse is 0; right takes left
unfoldable pub parse_undo : List ℕ → UndoValues
parse_undo s =
    let l = unwrap_or (i32 (field 0 s)) (pos 0) in
    record { left = l; right = unwrap_or (i32 (field 1 s)) l }

-- the flag is the third field, trimmed, W in any case; all else means N
unfoldable pub undo_wraps : List ℕ → Bool
undo_wraps s = same_key (trim (field 2 s)) (ascii "W")

-- the nearest number of 32 bits with a sign
abbrev pub sat32 : ℤ → ℤ
sat32 (pos n) = pos (min 2147483647 n)
sat32 (negsuc n) = negsuc (min 2147483647 n)

-- the steps subtracted from what is stored; nothing stored reads as the empty text
unfoldable pub accumulated : List ℕ → ℤ → ℤ → UndoValues
accumulated s l r = record { left = sat32 ((parse_undo s).left -ℤ l); right = sat32 ((parse_undo s).right -ℤ r) }
