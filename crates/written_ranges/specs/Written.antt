-- Every range that is written has the same two numbers in both views (document 02, request 10).
use Rattle.std.specs.Prelude.{ℕ, ◌<◌, ◌≡◌, List, ◌++◌, ℤ}
use Rattle.std.specs.Prelude.{Some}
use Rattle.keys.specs.Keys.{minmax_key}
use Rattle.values.specs.declared.Range.{Range}
use Rattle.values.specs.declared.Kind as k
use Rattle.values.specs.Range.{format_range, parse_range, shifted}
use Rattle.values.specs.Stored.{kind_of, shift_stored}
use Rattle.fixed_ranges.specs.Fixed.{BothRead}
use Rattle.items.specs.Items.{get_item}
use Rattle.calls.specs.Calls.{Level, adjusted, range_of, new_items}

-- the gains of both sides as level leaves them
abbrev pub gains_after : List ℕ → List ℕ → Level → List ℕ
gains_after left right l = adjusted l.mode l.left left ++ adjusted l.mode l.right right

pub record EveryRange : Type 0 where
  -- the text of two gains, as `format_minmax` and `set_minmax` write it
  pub format : (r : Range) → r.least < 256 → r.greatest < 256 → BothRead (format_range r) r
  -- a range that `shift_stored_value` gives a new text: its old numbers, shifted
  pub shift : (key value : List ℕ) (steps : ℤ) (t : List ℕ) → kind_of key ≡ k.TheVariants.Range → shift_stored key value steps ≡ Some t
      → (r : Range) × (parse_range value ≡ Some r) × BothRead t (shifted steps r)
  -- MP3GAIN_MINMAX among the items that level leaves: the least and the greatest of all gains after the call
  pub level : (file left right : List ℕ) (l : Level)
      → (t : List ℕ) × (get_item minmax_key (new_items file left right l) ≡ Some t) × BothRead t (range_of (gains_after left right l))
