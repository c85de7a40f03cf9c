-- Every range that we write is read alike by both views.
use Prim.Native.Nat.{ℕ, ◌+◌, ◌/◌, ◌%◌, ◌<◌}
use native.Mathlib.Omega.{arith}
use mathlib.Core.Path.{◌≡◌, refl}
use mathlib.Core.Bool.{true}
use Rattle.std.specs.Prelude.{Some}
use mathlib.Core.List.{◌∷◌, ◌++◌}
use lib.Seq.{take_at}
use borrow.Author.Tests.{le-leb, eq-eqb}
use Rattle.number.specs.Reading.{is_digit, natural, digits_from, is_minus, unsigned, u8}
use Rattle.number.specs.Fields.{before, behind}
use Rattle.number.specs.Trim.{is_space, trim_left, keep, trim_right, trim}
use Rattle.decimal.specs.Writing.{places}
use Rattle.decimal.proofs.Places.{length-places}
use Rattle.decimal.proofs.ReadBack.{natural-places}
use Rattle.values.specs.Range.{parse_range, format_range}
use Rattle.values.specs.declared.Range.{Range}
use Rattle.values.proofs.ReadBack.{range_back}
use Rattle.fixed_ranges.specs.Fixed.{digits_of, leading, three, fixed, views, BothRead}
use Rattle.fixed_ranges.specs.Figures.{Figures}
use Rattle.fixed_ranges.specs.declared.Views.TheVariants.{Agree}

digit : (n : ℕ) → is_digit (48 + n % 10) ≡ true
unfolding is_digit
digit n = rw (le-leb 48 (48 + n % 10) (omega arith), le-leb (48 + n % 10) 57 (omega arith))

all_digits : (n : ℕ) → digits_of (places 3 n) ≡ places 3 n
unfolding digits_of places
all_digits n = rw (digit (n / 10 / 10), digit (n / 10), digit n)

number_of : (n : ℕ) → n < 1000 → leading (places 3 n) ≡ Some n
unfolding leading
number_of n h = rw (all_digits n) (natural-places 3 n (omega arith) (omega arith))

first-at : (a b : ℕ) → three 0 (places 3 a ++ (0x2C ∷ places 3 b)) ≡ places 3 a
first-at a b = take_at (places 3 a) (0x2C ∷ places 3 b) 3 (length-places 3 a)

second_at : (a b : ℕ) → three 4 (places 3 a ++ (0x2C ∷ places 3 b)) ≡ places 3 b
unfolding places
second_at a b = refl

module _ (r : Range) (ha : r.least < 256) (hb : r.greatest < 256) where
  fixed_back : fixed (format_range r) ≡ Some (record { first = r.least; second = r.greatest })
  unfolding fixed format_range
  fixed_back = rw (first-at r.least r.greatest, second_at r.least r.greatest, number_of r.least (omega arith), number_of r.greatest (omega arith))

  agree : views (format_range r) ≡ Agree
  unfolding views
  agree = rw (range_back r ha hb, fixed_back, eq-eqb r.least r.least refl, eq-eqb r.greatest r.greatest refl)

  -- both views read what is written of two bytes' numbers, as these two numbers
  pub both_read : BothRead (format_range r) r
  both_read = record { here = range_back r ha hb; there = fixed_back; agree = agree }

-- ---- the texts of the request

pub figures : Figures
unfolding views fixed leading digits_of natural digits_from is_digit parse_range before behind u8 is_minus unsigned trim trim_left trim_right keep is_space
figures = record {
  differs = refl;
  there = refl;
  here = refl;
  only-ours = refl;
  neither = refl;
  agrees = refl;
  above-255 = refl;
  no-comma = refl;
  sign = refl;
  space = refl;
  spaces-behind = refl;
  nothing-at-4 = refl;
  last-digit = refl;
  other-last-digit = refl;
  empty = refl;
}
