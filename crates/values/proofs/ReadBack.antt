-- Laws of undo and range texts: they read back, their lengths, their bytes, and the sizes of what is read.
use Prim.Native.Nat.{ℕ, ◌≤◌, ◌<◌}
use native.Mathlib.Omega.{arith}
use mathlib.Core.Path.{◌≡◌, refl}
use mathlib.Core.Bool.{Bool, true, false, not, ◌||◌}
use Rattle.std.specs.Prelude.{Option, None, Some, unwrap_or}
use mathlib.Core.List.{List, [], ◌∷◌, ◌++◌}
use lib.ListN.{length, length-append}
use lib.IntN.{ℤ, pos, negsuc, nat_abs, ◌+ℤ◌, ◌-ℤ◌}
use lib.Signed.{mag}
use borrow.Author.Tests.{ltb-true}
use Rattle.lists.specs.Bytes.{ascii, all, same}
use Rattle.number.specs.Trim.{is_space, trim_left, keep, trim_right, trim}
use Rattle.number.specs.Fields.{before, behind, field}
use Rattle.number.specs.Reading.{natural, unsigned, is_minus, whole, is_i32, is_u8, i32}
use Rattle.decimal.specs.Writing.{places, signed}
use Rattle.number.proofs.Limits.{provided-holds}
use Rattle.decimal.proofs.ReadBack.{marks-signed, marks-places, before-marks, behind-marks, comma, i32-signed, u8-places, i32-places, length-decimal, Plain, plain-before, plain-marks}
use Rattle.keys.specs.Keys.{upper, upper_all, same_key}
use Rattle.values.specs.Undo.{flag_byte, format_undo, parse_undo, undo_wraps, sat32, accumulated}
use Rattle.values.specs.Range.{format_range, parse_range, shifted, shift_range, leaves, wraps_out}
use Rattle.values.specs.declared.Range.{Range}

-- ---- undo texts

-- nothing stored: no steps, and N
pub undo-none : (parse_undo [] ≡ record { left = pos 0; right = pos 0 }) × (undo_wraps [] ≡ false)
unfolding parse_undo undo_wraps field before behind i32 whole natural unsigned is_minus trim trim_left trim_right same_key same upper_all
undo-none = (refl, refl)

flag-back : (w : Bool) → same_key (trim (before 44 (flag_byte w ∷ []))) (ascii "W") ≡ w
unfolding same_key same upper_all upper trim trim_left trim_right keep is_space before
flag-back true = refl
flag-back false = refl

-- both numbers and the flag, for every i32
pub undo-back : (l r : ℤ) (w : Bool) → mag l < 2147483648 → mag r < 2147483648
    → (parse_undo (format_undo l r w) ≡ record { left = l; right = r }) × (undo_wraps (format_undo l r w) ≡ w)
unfolding parse_undo undo_wraps format_undo field
undo-back l r w hl hr =
    let f : List ℕ = flag_byte w ∷ [] in
    let t : List ℕ = signed r ++ (44 ∷ f) in
    rw (
      before-marks 44 comma t (signed l) (marks-signed l),
      behind-marks 44 comma t (signed l) (marks-signed l),
      before-marks 44 comma f (signed r) (marks-signed r),
      behind-marks 44 comma f (signed r) (marks-signed r),
      flag-back w,
      i32-signed l hl,
      i32-signed r hr,
    )
    (refl, refl)

i32-below : (s : List ℕ) (z : ℤ) → i32 s ≡ Some z → mag z < 2147483648
unfolding i32
i32-below s z e = ltb-true (mag z) 2147483648 (provided-holds is_i32 (whole (trim s)) z e)

or_else : (s : List ℕ) (d : ℤ) → mag d < 2147483648 → mag (unwrap_or (i32 s) d) < 2147483648
or_else s d h = go (i32 s) refl
  where
    go : (o : Option ℤ) → i32 s ≡ o → mag (unwrap_or o d) < 2147483648
    go None e = h
    go (Some z) e = i32-below s z e

-- whatever the text, the numbers are of 32 bits
pub undo-small : (s : List ℕ) → (mag (parse_undo s).left < 2147483648) × (mag (parse_undo s).right < 2147483648)
unfolding parse_undo
undo-small s =
    let l : mag (parse_undo s).left < 2147483648 = or_else (field 0 s) (pos 0) (omega arith) in
    (l, or_else (field 1 s) (parse_undo s).left l)

sat-small : (z : ℤ) → mag (sat32 z) < 2147483648
sat-small (pos n) = omega arith
sat-small (negsuc n) = omega arith

pub accumulated-small : (s : List ℕ) (l r : ℤ) → (mag (accumulated s l r).left < 2147483648) × (mag (accumulated s l r).right < 2147483648)
unfolding accumulated
accumulated-small s l r = (sat-small ((parse_undo s).left -ℤ l), sat-small ((parse_undo s).right -ℤ r))

pub length-undo : (l r : ℤ) (w : Bool) → length (format_undo l r w) ≤ 25
unfolding format_undo signed
length-undo l r w = simp length-append (omega (arith, length-decimal 3 7 (nat_abs l), length-decimal 3 7 (nat_abs r)))

plain-flag : (w : Bool) → Plain (44 ∷ flag_byte w ∷ [])
unfolding all
plain-flag true = refl
plain-flag false = refl

pub plain-undo : (l r : ℤ) (w : Bool) → Plain (format_undo l r w)
unfolding format_undo all
plain-undo l r w =
    let t : List ℕ = signed r ++ (44 ∷ flag_byte w ∷ []) in
    plain-before (signed l) (44 ∷ t) (marks-signed l) (plain-before (signed r) (44 ∷ flag_byte w ∷ []) (marks-signed r) (plain-flag w))

-- ---- ranges

pub length-range : (r : Range) → length (format_range r) ≡ 7
unfolding format_range places
length-range r = refl

pub plain-range : (r : Range) → Plain (format_range r)
unfolding format_range all
plain-range r =
    plain-before (places 3 r.least) (44 ∷ places 3 r.greatest) (marks-places 3 r.least)
    (plain-marks (places 3 r.greatest) (marks-places 3 r.greatest))

module _ (r : Range) (ha : r.least < 256) (hb : r.greatest < 256) where
  first : before 44 (format_range r) ≡ places 3 r.least
  unfolding format_range
  first = before-marks 44 comma (places 3 r.greatest) (places 3 r.least) (marks-places 3 r.least)

  second : behind 44 (format_range r) ≡ Some (places 3 r.greatest)
  unfolding format_range
  second = behind-marks 44 comma (places 3 r.greatest) (places 3 r.least) (marks-places 3 r.least)

  -- as bytes' numbers
  pub range_back : parse_range (format_range r) ≡ Some r
  unfolding parse_range
  range_back = rw (second, first, u8-places r.least ha, u8-places r.greatest hb)

  pub range-shift : (steps : ℤ) → shift_range steps (format_range r) ≡ Some (format_range (shifted steps r))
  unfolding shift_range
  range-shift steps = rw range_back

  -- as numbers of 32 bits
  pub range-out : (steps : ℤ) → wraps_out steps (format_range r) ≡ (not (is_u8 (pos r.least +ℤ steps)) || not (is_u8 (pos r.greatest +ℤ steps)))
  unfolding wraps_out leaves
  range-out steps = rw (second, first, i32-places r.least ha, i32-places r.greatest hb)
