-- Ranges read at fixed places, beside the fields that we parse (document 02, request 10).
use Rattle.std.specs.Prelude.{ℕ, ◌≡◌, ◌&&◌, cond, List, [], ◌∷◌, take, drop, eqb}
use Rattle.std.specs.Prelude.{Option, None, Some, option_map}
use Rattle.lists.specs.Choice.{found}
use Rattle.number.specs.Reading.{is_digit, natural}
use Rattle.values.specs.Range.{parse_range}
use Rattle.values.specs.declared.Range.{Range}
use Rattle.fixed_ranges.specs.declared.FixedRange.{FixedRange}
use Rattle.fixed_ranges.specs.declared.Views.{Views}
use Rattle.fixed_ranges.specs.declared.Views.TheVariants.{Agree, Differ, OnlyOurs, OnlyFixed, Neither}

-- the digits with which a text begins
unfoldable pub digits_of : List ℕ → List ℕ
digits_of [] = []
digits_of (x ∷ s) = cond (is_digit x) (x ∷ digits_of s) []

-- their number; a text that begins with no digit has none
unfoldable pub leading : List ℕ → Option ℕ
leading s = natural (digits_of s)

-- the three bytes from a place, fewer where the text ends before
abbrev pub three : ℕ → List ℕ → List ℕ
three at s = take 3 (drop at s)

-- the fixed view: bytes 0 to 2, and bytes 4 to 6
unfoldable pub fixed : List ℕ → Option FixedRange
fixed s = found (leading (three 0 s)) None (λ a. option_map (λ b. record { first = a; second = b }) (leading (three 4 s)))

-- what the two views of a text say of each other
abbrev pub views_of : Option Range → Option FixedRange → Views
views_of None None = Neither
views_of None (Some v) = OnlyFixed
views_of (Some r) None = OnlyOurs
views_of (Some r) (Some v) = cond (eqb r.least v.first && eqb r.greatest v.second) Agree Differ

-- the same of a text
unfoldable pub views : List ℕ → Views
views s = views_of (parse_range s) (fixed s)

-- both views read the text, as the same two numbers
pub record BothRead (s : List ℕ) (r : Range) : Type 0 where
  pub here : parse_range s ≡ Some r
  pub there : fixed s ≡ Some (record { first = r.least; second = r.greatest })
  pub agree : views s ≡ Agree
