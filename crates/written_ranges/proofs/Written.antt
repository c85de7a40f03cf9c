-- Every range that is written is that of two bytes' numbers.
use Prim.Native.Nat.{ℕ, ◌<◌}
use native.Mathlib.Omega.{arith}
use mathlib.Core.Path.{◌≡◌, refl, sym, ap, ◌∙◌, subst}
use Rattle.std.specs.Prelude.{Option, None, Some}
use Rattle.std.specs.Prelude.{option_map}
use mathlib.Core.List.{List, [], ◌∷◌, map}
use lib.IntN.{ℤ}
use Rattle.frame.specs.declared.GainMode.{GainMode}
use Rattle.frame.specs.declared.GainMode.TheVariants.{Saturating}
use Rattle.frame.specs.Gain.{adjust}
use Rattle.frame.proofs.Gains.{adjust-below}
use Rattle.keys.specs.Keys.{minmax_key}
use Rattle.values.specs.declared.Range.{Range}
use Rattle.values.specs.declared.Kind as k
use Rattle.values.specs.Range.{format_range, parse_range, shifted, shift_range}
use Rattle.values.specs.Stored.{kind_of, shift_by, shift_stored}
use Rattle.fixed_ranges.specs.Fixed.{BothRead}
use Rattle.fixed_ranges.proofs.Written.{both_read}
use Rattle.items.specs.Items.{get_item}
use Rattle.items.proofs.ItemLaws.{get_set_same}
use Rattle.calls.specs.Calls.{Level, adjusted, least, greatest, range_of, levelled_items, new_items}
use Rattle.gains.proofs.Ranges.{least-small, greatest-append}
use Rattle.written_ranges.specs.Written.{gains_after, EveryRange}

-- ---- a shifted range

moved : (o : Option Range) (steps : ℤ) (t : List ℕ) → option_map (λ r. format_range (shifted steps r)) o ≡ Some t
    → (r : Range) × (o ≡ Some r) × BothRead t (shifted steps r)
moved None steps t e = absurd (let z : ◌≡◌ {A = ℕ} 0 1 = cc in omega arith)
moved (Some r) steps t e =
    let q : format_range (shifted steps r) ≡ t = cc in
    let both = both_read (shifted steps r) (adjust-below Saturating steps r.least) (adjust-below Saturating steps r.greatest) in
    (r, refl, subst (λ (x : List ℕ). BothRead x (shifted steps r)) q both)

shift : (key value : List ℕ) (steps : ℤ) (t : List ℕ) → kind_of key ≡ k.TheVariants.Range → shift_stored key value steps ≡ Some t
    → (r : Range) × (parse_range value ≡ Some r) × BothRead t (shifted steps r)
unfolding shift_stored shift_range
shift key value steps t h e = moved (parse_range value) steps t (ap (λ x. shift_by x value steps) (sym h) ∙ e)

-- ---- the range of all gains

greatest-small : (m : GainMode) (s : ℤ) (gs : List ℕ) → greatest (map (adjust m s) gs) < 256
unfolding greatest
greatest-small m s [] = omega arith
greatest-small m s (g ∷ gs) = omega (arith, adjust-below m s g, greatest-small m s gs)

level : (file left right : List ℕ) (l : Level)
    → (t : List ℕ) × (get_item minmax_key (new_items file left right l) ≡ Some t) × BothRead t (range_of (gains_after left right l))
unfolding levelled_items
level file left right l =
    let gs = gains_after left right l in
    let low : least gs < 256 = omega (arith, least-small gs) in
    let both = greatest-append (adjusted l.mode l.left left) (adjusted l.mode l.right right) in
    let high : greatest gs < 256 = omega (arith, both, greatest-small l.mode l.left left, greatest-small l.mode l.right right) in
    (format_range (range_of gs), get_set_same minmax_key (format_range (range_of gs)) _, both_read (range_of gs) low high)

-- all of them
pub every-range : EveryRange
every-range = record { format = both_read; shift = shift; level = level }
