-- Laws of the items that level leaves: how they begin, how long they are, and that they can be read back.
use Prim.Native.Nat.{◌+◌, ◌*◌, ◌≤◌}
use native.Mathlib.Omega.{arith}
use mathlib.Core.Path.{◌≡◌, refl, ap}
use mathlib.Core.Bool.{Bool, true, false, cond}
use mathlib.Core.List.{List}
use lib.ListN.{length}
use lib.IntN.{ℤ, pos, negsuc}
use borrow.Author.Tests.{eq-eqb, ne_eqb}
use Rattle.keys.specs.Keys.{undo_key, minmax_key, is_undone}
use Rattle.keys.proofs.Keys.{undo-keys}
use Rattle.values.specs.declared.UndoValues.{UndoValues}
use Rattle.values.specs.declared.Range.{Range}
use Rattle.values.specs.Undo.{format_undo}
use Rattle.values.specs.Range.{format_range}
use Rattle.values.proofs.ReadBack.{length-undo, length-range}
use Rattle.items.specs.Items.{Item, area_bytes, without}
use Rattle.items.proofs.Area.{AllSane}
use Rattle.items.proofs.ItemLaws.{area_set, area-without, sane-set, sane-key}
use Rattle.calls.specs.Calls.{Level, same_step, wraps, shift_stored_gain, shifted_items, count_items, keeps_peak, peaks_kept}
use Rattle.calls.proofs.Items.{shifted-sane}
use Rattle.area_shift.proofs.Shifting.{shift-bytes}
use Rattle.level_items.specs.Items.{undone_items, ranged_items}

-- ---- which way they go

same-step : (a b : ℤ) → a ≡ b → same_step a b ≡ true
same-step (pos a) b e = rw (← e) (eq-eqb a a refl)
same-step (negsuc a) b e = rw (← e) (eq-eqb a a refl)

other_step : (a b : ℤ) → (a ≡ b → ⊥) → same_step a b ≡ false
other_step (pos a) (pos b) n = ne_eqb a b (λ e. n (ap pos e))
other_step (pos a) (negsuc b) n = refl
other_step (negsuc a) (pos b) n = refl
other_step (negsuc a) (negsuc b) n = ne_eqb a b (λ e. n (ap negsuc e))

module _ (l : Level) (ts : List Item) where
  pub moved-equal : l.left ≡ l.right → shifted_items l ts ≡ shift_stored_gain l.mode l.left ts
  unfolding shifted_items
  moved-equal e = rw (same-step l.left l.right e)

  pub moved_other : (l.left ≡ l.right → ⊥) → shifted_items l ts ≡ without is_undone ts
  unfolding shifted_items
  moved_other n = rw (other_step l.left l.right n)

module _ (left right : ℤ) (ts : List Item) where
  pub kept-equal : left ≡ right → peaks_kept left right ts ≡ count_items (keeps_peak left) ts
  unfolding peaks_kept
  kept-equal e = rw (same-step left right e)

  pub kept-other : (left ≡ right → ⊥) → peaks_kept left right ts ≡ 0
  unfolding peaks_kept
  kept-other n = rw (other_step left right n)

-- ---- they can be read back

pub undone-sane : (l : Level) (u : UndoValues) (ts : List Item) → AllSane ts → AllSane (undone_items l u ts)
unfolding undone_items
undone-sane l u ts s = sane-set undo_key (format_undo u.left u.right (wraps l.mode)) (shifted_items l ts) (sane-key undo_key undo-keys.0) (shifted-sane l ts s)

pub ranged-sane : (l : Level) (u : UndoValues) (r : Range) (ts : List Item) → AllSane ts → AllSane (ranged_items l u r ts)
unfolding ranged_items
ranged-sane l u r ts s = sane-set minmax_key (format_range r) (undone_items l u ts) (sane-key minmax_key undo-keys.1) (undone-sane l u ts s)

-- ---- they are short

pub moved-short : (l : Level) (ts : List Item) → length (area_bytes (shifted_items l ts)) ≤ length (area_bytes ts) + 32 * length ts
unfolding shifted_items
moved-short l ts = go (same_step l.left l.right) refl
  where
    go : (a : Bool) → same_step l.left l.right ≡ a → length (area_bytes (cond a (shift_stored_gain l.mode l.left ts) (without is_undone ts))) ≤ length (area_bytes ts) + 32 * length ts
    go true e = omega (arith, shift-bytes l.mode l.left ts)
    go false e = omega (arith, area-without is_undone ts)

pub undone-short : (l : Level) (u : UndoValues) (ts : List Item) → length (area_bytes (undone_items l u ts)) ≤ length (area_bytes ts) + 32 * length ts + 46
unfolding undone_items undo_key
undone-short l u ts =
    omega (arith, area_set undo_key (format_undo u.left u.right (wraps l.mode)) (shifted_items l ts), moved-short l ts, length-undo u.left u.right (wraps l.mode))

pub ranged-short : (l : Level) (u : UndoValues) (r : Range) (ts : List Item) → length (area_bytes (ranged_items l u r ts)) ≤ length (area_bytes ts) + 32 * length ts + 76
unfolding ranged_items minmax_key
ranged-short l u r ts = omega (arith, area_set minmax_key (format_range r) (undone_items l u ts), undone-short l u ts, length-range r)
