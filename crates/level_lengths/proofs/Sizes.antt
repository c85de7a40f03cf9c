-- The gains do not matter to the length: every range has seven bytes.
use Prim.Native.Nat.{ℕ, suc}
use native.Mathlib.Omega.{arith}
use mathlib.Core.Path.{◌≡◌, refl, sym, ap, ◌∙◌}
use mathlib.Core.Bool.{Bool, true, false, cond}
use mathlib.Core.List.{List, [], ◌∷◌, ◌++◌}
use lib.ListN.{length}
use Rattle.replies.specs.Refusal.{yes}
use Rattle.keys.specs.Keys.{same_key, minmax_key}
use Rattle.values.specs.declared.UndoValues.{UndoValues}
use Rattle.values.specs.declared.Range.{Range}
use Rattle.values.specs.Range.{format_range}
use Rattle.values.proofs.ReadBack.{length-range}
use Rattle.items.specs.Items.{Item, area_bytes, new_item, with_value, set_item}
use Rattle.items.proofs.Area.{length-area}
use Rattle.calls.specs.Gate.{items_of}
use Rattle.calls.specs.Calls.{Level, booked, range_of, adjusted, levelled_items, new_items, is_there, level_gives}
use Rattle.calls.specs.Lengths.{unlimited, size_plan, file_length, level_length}
use Rattle.checks.specs.Checks.{level_check}
use Rattle.checks.proofs.Whole.{level-last}
use Rattle.level_items.specs.Items.{undone_items, ranged_items}
use Rattle.lengths.specs.Sizes.{last_length}
use Rattle.lengths.proofs.Measuring.{last-is}

-- two lists of items with as many items and bytes
record Alike (ts us : List Item) : Type 0 where
  count : length ts ≡ length us
  bytes : length (area_bytes ts) ≡ length (area_bytes us)

-- a value as long as another gives an area as long
set-alike : (key v w : List ℕ) → length v ≡ length w → (ts : List Item) → Alike (set_item key v ts) (set_item key w ts)
unfolding set_item
set-alike key v w e [] = record { count = refl; bytes = omega (arith, length-area (new_item key v) [], length-area (new_item key w) []) }
set-alike key v w e (t ∷ ts) = go (same_key key t.key) (set-alike key v w e ts)
  where
    go : (b : Bool) → Alike (set_item key v ts) (set_item key w ts)
        → Alike (cond b (with_value v t ∷ ts) (t ∷ set_item key v ts)) (cond b (with_value w t ∷ ts) (t ∷ set_item key w ts))
    go true h = record { count = refl; bytes = omega (arith, length-area (with_value v t) ts, length-area (with_value w t) ts) }
    go false h = record { count = ap suc h.count; bytes = omega (arith, length-area t (set_item key v ts), length-area t (set_item key w ts), h.bytes) }

-- any range will do
ranged-alike : (l : Level) (u : UndoValues) (q r : Range) (ts : List Item) → Alike (ranged_items l u q ts) (ranged_items l u r ts)
unfolding ranged_items
ranged-alike l u q r ts = set-alike minmax_key (format_range q) (format_range r) (length-range q ∙ sym (length-range r)) (undone_items l u ts)

module _ (file left right : List ℕ) (l : Level) where
  new_is : {u : UndoValues} → u ≡ booked l (items_of file)
      → ranged_items l u (range_of (adjusted l.mode l.left left ++ adjusted l.mode l.right right)) (items_of file) ≡ new_items file left right l
  unfolding ranged_items undone_items levelled_items
  new_is e = rw e

  -- the length of level's file is that of one with any range
  pub level-is : {u : UndoValues} (r : Range) → u ≡ booked l (items_of file) → level_check file (is_there left) l ≡ yes u
      → level_length file left right l ≡ last_length file (length (area_bytes (ranged_items l u r (items_of file)))) (length (ranged_items l u r (items_of file)))
  unfolding level_length
  level-is {u} r b e =
      let new = new_items file left right l in
      let h = ranged-alike l u r (range_of (adjusted l.mode l.left left ++ adjusted l.mode l.right right)) (items_of file) in
      ap (size_plan file_length) (level-last file left right l unlimited e)
      ∙ sym (last-is file_length file new (level_gives file left right l) refl)
      ∙ rw (h.bytes, h.count, new_is b)
