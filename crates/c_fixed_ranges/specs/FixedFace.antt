-- What the faces of crate fixed_ranges answer and leave in their lent numbers.
use Rattle.std.specs.Prelude.{ℕ, Bool, true, false}
use Rattle.std.specs.Prelude.{Option, None, Some}
use Rattle.fixed_ranges.specs.declared.FixedRange.{FixedRange}
use Rattle.fixed_ranges.specs.declared.Views.{Views}
use Rattle.fixed_ranges.specs.declared.Views.TheVariants.{Agree, Differ, OnlyOurs, OnlyFixed, Neither}

-- whether both numbers are there, and what the two lent numbers hold afterwards
pub record Fixed : Type 0 where
  pub there : Bool
  pub first : ℕ
  pub second : ℕ

-- from the fixed view, and what the lent numbers held: where it reads nothing they stay
abbrev pub fixed_face : Option FixedRange → ℕ → ℕ → Fixed
fixed_face None first second = record { there = false; first = first; second = second }
fixed_face (Some v) first second = record { there = true; first = v.first; second = v.second }

-- the five answers as numbers
abbrev pub views_number : Views → ℕ
views_number Agree = 0
views_number Differ = 1
views_number OnlyOurs = 2
views_number OnlyFixed = 3
views_number Neither = 4
