-- Laws of the texts that a shift writes: short, and of printable ASCII.
use Prim.Native.Nat.{ℕ, ◌≤◌}
use native.Mathlib.Omega.{arith}
use mathlib.Core.Path.{◌≡◌}
use Rattle.std.specs.Prelude.{Option, None, Some, option_map}
use mathlib.Core.List.{List}
use lib.ListN.{length}
use lib.IntN.{ℤ}
use Rattle.decimal.proofs.ReadBack.{Plain}
use Rattle.decibels.specs.Gain.{parse_gain, format_gain, nearest, remaining, shift_gain}
use Rattle.decibels.specs.declared.Millionths.{Millionths}
use Rattle.decibels.proofs.ReadBack.{length-gain, plain-gain}
use Rattle.lists.specs.Choice.{provided}
use Rattle.peaks.specs.Peak.{new_count, parse_peak, format_peak, fits_text, shift_peak}
use Rattle.peaks.proofs.Texts.{length-peak, plain-peak}
use Rattle.values.specs.Range.{format_range, parse_range, shifted, shift_range}
use Rattle.values.specs.Stored.{kind_of, shift_by, shift_stored}
use Rattle.values.specs.declared.Range.{Range}
use Rattle.values.specs.declared.Kind as k
use Rattle.values.proofs.ReadBack.{length-range, plain-range}

-- what holds of a text that is written, holds of it where it is written at all
made : {A : Type 0} (P : List ℕ → Type 0) (f : A → List ℕ) → ((a : A) → P (f a)) → (o : Option A) (w : List ℕ) → option_map f o ≡ Some w → P w
made P f h None w e = absurd (let z : ◌≡◌ {A = ℕ} 0 1 = cc in omega arith)
made P f h (Some a) w e = let q : f a ≡ w = cc in rw (← q) (h a)

-- 21 bytes at the most, each of hex 20..7E
pub record Short (w : List ℕ) : Type 0 where
  pub size : length w ≤ 21
  pub plain : Plain w

range-short : (r : Range) → Short (format_range r)
range-short r = record { size = omega (arith, length-range r); plain = plain-range r }

gain-short : (a : Millionths) → Short (format_gain a)
gain-short a = record { size = length-gain a; plain = plain-gain a }

peak-short : (n : ℕ) → Short (format_peak n)
peak-short n = record { size = omega (arith, length-peak n); plain = plain-peak n }

by-short : (kind : k.Kind) (value : List ℕ) (steps : ℤ) (w : List ℕ) → shift_by kind value steps ≡ Some w → Short w
unfolding shift_range shift_gain shift_peak
by-short k.TheVariants.Range value steps w e = made Short (λ r. format_range (shifted steps r)) (λ r. range-short (shifted steps r)) (parse_range value) w e
by-short k.TheVariants.Gain value steps w e = made Short (λ g. format_gain (nearest (remaining steps g))) (λ g. gain-short (nearest (remaining steps g))) (parse_gain value) w e
by-short k.TheVariants.Peak value steps w e = made Short format_peak peak-short (provided fits_text (option_map (new_count steps) (parse_peak value))) w e
by-short k.TheVariants.Other value steps w e = absurd (let z : ◌≡◌ {A = ℕ} 0 1 = cc in omega arith)

pub stored_short : (key value : List ℕ) (steps : ℤ) (w : List ℕ) → shift_stored key value steps ≡ Some w → Short w
unfolding shift_stored
stored_short key value steps w e = by-short (kind_of key) value steps w e
