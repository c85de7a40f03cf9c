-- Laws of the peak items of the tag that level leaves: each was kept or moved, and unequal steps leave none.
use Prim.Native.Nat.{ℕ, ◌+◌, ◌<◌}
use native.Mathlib.Omega.{arith}
use mathlib.Core.Path.{◌≡◌, refl, sym, ◌∙◌}
use mathlib.Core.Bool.{Bool, true, false, not, ◌&&◌, ◌||◌, cond, true≢false}
use Rattle.std.specs.Prelude.{Option, None, Some}
use mathlib.Core.List.{List, [], ◌∷◌, map}
use lib.Dec.{eqb, leb}
use lib.IntN.{ℤ}
use borrow.Author.Tests.{ne_eqb, eqb-true, leb-false}
use Rattle.lists.specs.Bytes.{same}
use Rattle.lists.specs.Choice.{found, is_some}
use Rattle.frame.specs.declared.GainMode.{GainMode}
use Rattle.frame.specs.declared.GainMode.TheVariants.{Saturating, Wrapping}
use Rattle.keys.specs.Keys.{upper, upper_all, same_key, which_of, keys, which_key, is_from, is_undone, undo_key, minmax_key}
use Rattle.keys.proofs.Keys.{key-upper, which-same}
use Rattle.values.specs.Stored.{is_range, is_gain, is_peak, kind_of, range_wraps_out, shift_stored}
use Rattle.items.specs.Items.{Item, with_value, set_item, without, count_of}
use Rattle.calls.specs.Calls.{Level, staying, shift_item, shift_stored_gain, same_step, shifted_items, levelled_items, is_peak_key, count_items, keeps_peak, peaks_kept}
use Rattle.calls.proofs.Items.{shift-key}

-- ---- what level sets is no peak item

set-keys : (is_peak_key undo_key ≡ false) × (is_peak_key minmax_key ≡ false)
unfolding is_peak_key which_key which_of keys same_key same upper_all upper undo_key minmax_key
set-keys = (refl, refl)

peak-case : (a b : List ℕ) → same_key a b ≡ true → is_peak_key a ≡ is_peak_key b
unfolding is_peak_key which_key
peak-case a b e = rw (which-same keys a b e)

count_set : (key value : List ℕ) (ts : List Item) → is_peak_key key ≡ false → count_of is_peak_key (set_item key value ts) ≡ count_of is_peak_key ts
unfolding count_of set_item
count_set key value [] e = rw (peak-case (upper_all key) key (key-upper key), e)
count_set key value (t ∷ ts) e = go (same_key key t.key) (count_set key value ts e)
  where
    go : (b : Bool) → count_of is_peak_key (set_item key value ts) ≡ count_of is_peak_key ts
        → count_of is_peak_key (cond b (with_value value t ∷ ts) (t ∷ set_item key value ts)) ≡ count_of is_peak_key (t ∷ ts)
    go true ih = refl
    go false ih = rw ih

-- ---- a shift keeps every peak item's key, and drops only ranges

count-moved : (p : List ℕ → Bool) (z : ℤ) (ts : List Item) → count_of p (map (shift_item z) ts) ≡ count_of p ts
unfolding count_of
count-moved p z [] = refl
count-moved p z (t ∷ ts) = rw (shift-key z t, count-moved p z ts)

range_other : (i : ℕ) → is_range i ≡ true → is_peak i ≡ false
range_other i e = go (eqb i 1) (eqb i 2) refl refl e
  where
    go : (a b : Bool) → eqb i 1 ≡ a → eqb i 2 ≡ b → (a || b) ≡ true → is_peak i ≡ false
    go true b p q e = let j : i ≡ 1 = eqb-true i 1 p in rw j
    go false true p q e = let j : i ≡ 2 = eqb-true i 2 q in rw j
    go false false p q e = absurd (true≢false (sym e))

out-other : (key value : List ℕ) (z : ℤ) → range_wraps_out key value z ≡ true → is_peak_key key ≡ false
unfolding range_wraps_out kind_of is_peak_key
out-other key value z e = go (which_key key) refl
  where
    by : (i : ℕ) → which_key key ≡ Some i → (a b c : Bool) → is_range i ≡ a → is_gain i ≡ b → is_peak i ≡ c → is_peak i ≡ false
    by i q true b c p r s = range_other i p
    by i q false true c p r s = absurd (true≢false (sym e ∙ rw (q, p, r)))
    by i q false false true p r s = absurd (true≢false (sym e ∙ rw (q, p, r, s)))
    by i q false false false p r s = s

    go : (o : Option ℕ) → which_key key ≡ o → is_peak_key key ≡ false
    go None q = rw q
    go (Some i) q = rw q (by i q (is_range i) (is_gain i) (is_peak i) refl refl refl)

count-staying : (m : GainMode) (z : ℤ) (ts : List Item) → count_of is_peak_key (staying m z ts) ≡ count_of is_peak_key ts
unfolding count_of staying
count-staying Saturating z ts = refl
count-staying Wrapping z [] = refl
count-staying Wrapping z (t ∷ ts) = go (range_wraps_out t.key t.value z) refl (count-staying Wrapping z ts)
  where
    go : (b : Bool) → range_wraps_out t.key t.value z ≡ b → count_of is_peak_key (staying Wrapping z ts) ≡ count_of is_peak_key ts
        → count_of is_peak_key (cond b (staying Wrapping z ts) (t ∷ staying Wrapping z ts)) ≡ count_of is_peak_key (t ∷ ts)
    go true e ih = rw (out-other t.key t.value z e) (ih ∙ omega arith)
    go false e ih = rw ih

-- ---- the keys that unequal steps drop are the peaks' too

undone-peak : (key : List ℕ) → is_undone key ≡ false → is_peak_key key ≡ false
unfolding is_from is_peak_key
undone-peak key e = go (which_key key) e
  where
    go : (o : Option ℕ) → found o false (λ i. leb 2 i) ≡ false → found o false is_peak ≡ false
    go None e = refl
    go (Some i) e =
        let h : i < 2 = leb-false 2 i e in
        rw (ne_eqb i 4 (λ j. omega arith), ne_eqb i 6 (λ j. omega arith))

count-dropped : (ts : List Item) → count_of is_peak_key (without is_undone ts) ≡ 0
unfolding count_of without
count-dropped [] = refl
count-dropped (t ∷ ts) = go (is_undone t.key) refl (count-dropped ts)
  where
    go : (b : Bool) → is_undone t.key ≡ b → count_of is_peak_key (without is_undone ts) ≡ 0
        → count_of is_peak_key (cond b (without is_undone ts) (t ∷ without is_undone ts)) ≡ 0
    go true e ih = ih
    go false e ih = rw (undone-peak t.key e) (omega arith)

-- ---- a peak item is kept or moved

-- a peak item that a shift by so many steps moves
unfoldable pub moves_peak : ℤ → Item → Bool
moves_peak z t = is_peak_key t.key && is_some (shift_stored t.key t.value z)

kept-or-moved : (z : ℤ) (ts : List Item) → count_items (keeps_peak z) ts + count_items (moves_peak z) ts ≡ count_of is_peak_key ts
unfolding count_of count_items keeps_peak moves_peak
kept-or-moved z [] = refl
kept-or-moved z (t ∷ ts) = go (is_peak_key t.key) (is_some (shift_stored t.key t.value z)) (kept-or-moved z ts)
  where
    go : (a b : Bool) → count_items (keeps_peak z) ts + count_items (moves_peak z) ts ≡ count_of is_peak_key ts
        → cond (a && not b) 1 0 + count_items (keeps_peak z) ts + (cond (a && b) 1 0 + count_items (moves_peak z) ts) ≡ cond a 1 0 + count_of is_peak_key ts
    go true true ih = omega arith
    go true false ih = omega arith
    go false b ih = omega arith

-- ---- the tag that level leaves

module _ (l : Level) (ts : List Item) (gs : List ℕ) where
  left_after : count_of is_peak_key (levelled_items l ts gs) ≡ count_of is_peak_key (shifted_items l ts)
  unfolding levelled_items
  left_after = count_set minmax_key _ _ set-keys.1 ∙ count_set undo_key _ _ set-keys.0

  -- where the steps are equal, its peak items are those that were kept and those that moved
  pub all-peaks : same_step l.left l.right ≡ true → peaks_kept l.left l.right ts + count_items (moves_peak l.left) ts ≡ count_of is_peak_key (levelled_items l ts gs)
  unfolding peaks_kept shifted_items shift_stored_gain
  all-peaks e =
      rw (e, left_after, e, count-moved is_peak_key l.left (staying l.mode l.left ts), count-staying l.mode l.left ts) (kept-or-moved l.left ts)

  -- where they differ it has none
  pub no-peaks : same_step l.left l.right ≡ false → count_of is_peak_key (levelled_items l ts gs) ≡ 0
  unfolding shifted_items
  no-peaks e = rw (left_after, e) (count-dropped ts)
