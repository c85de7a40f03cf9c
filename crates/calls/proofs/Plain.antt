-- Items with flags zero, which the published Rust reads and writes as the library does: every edit keeps them so, and the gate asks of them what it
-- asks of any text.
use Prim.Native.Nat.{ℕ, zero, suc}
use native.Mathlib.Omega.{arith}
use mathlib.Core.Path.{◌≡◌, refl}
use mathlib.Core.Bool.{Bool, true, false, ◌&&◌, cond}
use Rattle.std.specs.Prelude.{Option, None, Some}
use mathlib.Core.List.{List, [], ◌∷◌, map}
use lib.IntN.{ℤ}
use Rattle.lists.specs.Choice.{found}
use Rattle.frame.specs.declared.GainMode.{GainMode}
use Rattle.frame.specs.declared.GainMode.TheVariants.{Saturating, Wrapping}
use Rattle.utf8.specs.Utf8.{valid}
use Rattle.keys.specs.Keys.{same_key, is_undone}
use Rattle.values.specs.Stored.{range_wraps_out, shift_stored}
use Rattle.lossy.specs.Lossy.{lossy}
use Rattle.items.specs.Items.{Item, Head, head, parse, with_value, text_item, new_item, set_item, without}
use Rattle.ape.specs.Tag.{find_footer, count_at, area_at, read_value, converted, read_items}
use Rattle.calls.specs.Gate.{fit, item_valid, all_valid, gate_items}
use Rattle.calls.specs.Calls.{Level, staying, shift_item, shift_stored_gain, same_step, shifted_items, levelled_items}

-- P holds of each item
abbrev pub Each : (Item → Type 0) → List Item → Type 0
Each P [] = Unit {0}
Each P (t ∷ ts) = P t × Each P ts

-- what holds of new items, and of an item with another value where it held before, holds of each item after an edit
module _ (P : Item → Type 0) (new : (key value : List ℕ) → P (new_item key value)) (again : (value : List ℕ) (t : Item) → P t → P (with_value value t)) where
  pub each-without : (p : List ℕ → Bool) (ts : List Item) → Each P ts → Each P (without p ts)
  unfolding without
  each-without p [] h = tt
  each-without p (t ∷ ts) (a, r) = go (p t.key) (each-without p ts r)
    where
      go : (b : Bool) → Each P (without p ts) → Each P (cond b (without p ts) (t ∷ without p ts))
      go true k = k
      go false k = (a, k)

  pub each_set : (key value : List ℕ) (ts : List Item) → Each P ts → Each P (set_item key value ts)
  unfolding set_item
  each_set key value [] h = (new key value, tt)
  each_set key value (t ∷ ts) (a, r) = go (same_key key t.key) (each_set key value ts r)
    where
      go : (b : Bool) → Each P (set_item key value ts) → Each P (cond b (with_value value t ∷ ts) (t ∷ set_item key value ts))
      go true k = (again value t a, r)
      go false k = (a, k)

  each-staying : (m : GainMode) (z : ℤ) (ts : List Item) → Each P ts → Each P (staying m z ts)
  unfolding staying
  each-staying Saturating z ts h = h
  each-staying Wrapping z [] h = tt
  each-staying Wrapping z (t ∷ ts) (a, r) = go (range_wraps_out t.key t.value z) (each-staying Wrapping z ts r)
    where
      go : (b : Bool) → Each P (staying Wrapping z ts) → Each P (cond b (staying Wrapping z ts) (t ∷ staying Wrapping z ts))
      go true k = k
      go false k = (a, k)

  each-moved : (z : ℤ) (ts : List Item) → Each P ts → Each P (map (shift_item z) ts)
  unfolding shift_item
  each-moved z [] h = tt
  each-moved z (t ∷ ts) (a, r) = (go (shift_stored t.key t.value z), each-moved z ts r)
    where
      go : (o : Option (List ℕ)) → P (found o t (λ v. with_value v t))
      go None = a
      go (Some v) = again v t a

  pub each-shifted : (m : GainMode) (z : ℤ) (ts : List Item) → Each P ts → Each P (shift_stored_gain m z ts)
  unfolding shift_stored_gain
  each-shifted m z ts h = each-moved z (staying m z ts) (each-staying m z ts h)

  pub each-levelled : (l : Level) (ts : List Item) (gs : List ℕ) → Each P ts → Each P (levelled_items l ts gs)
  unfolding levelled_items shifted_items
  each-levelled l ts gs h = each_set _ _ _ (each_set _ _ _ (go (same_step l.left l.right)))
    where
      go : (b : Bool) → Each P (cond b (shift_stored_gain l.mode l.left ts) (without is_undone ts))
      go true = each-shifted l.mode l.left ts h
      go false = each-without is_undone ts h

-- flags zero
abbrev pub Plain : Item → Type 0
Plain t = t.flags ≡ 0

plain-again : (value : List ℕ) (t : Item) → Plain t → Plain (with_value value t)
plain-again value t e = omega (arith, e)

pub plain-without : (p : List ℕ → Bool) (ts : List Item) → Each Plain ts → Each Plain (without p ts)
plain-without = each-without Plain (λ k v. refl) plain-again

pub plain-set : (key value : List ℕ) (ts : List Item) → Each Plain ts → Each Plain (set_item key value ts)
plain-set = each_set Plain (λ k v. refl) plain-again

pub plain-shifted : (m : GainMode) (z : ℤ) (ts : List Item) → Each Plain ts → Each Plain (shift_stored_gain m z ts)
plain-shifted = each-shifted Plain (λ k v. refl) plain-again

pub plain-levelled : (l : Level) (ts : List Item) (gs : List ℕ) → Each Plain ts → Each Plain (levelled_items l ts gs)
plain-levelled = each-levelled Plain (λ k v. refl) plain-again

-- the gate asks of such an item that its key and its value are UTF-8
pub plain-item : (t : Item) → Plain t → item_valid t ≡ (valid t.key && valid t.value)
unfolding item_valid
plain-item t e = rw e

-- every key and every value is UTF-8
abbrev pub texts_valid : List Item → Bool
texts_valid [] = true
texts_valid (t ∷ ts) = (valid t.key && valid t.value) && texts_valid ts

-- the same of a list of them
pub plain-items : (ts : List Item) → Each Plain ts → all_valid ts ≡ texts_valid ts
unfolding all_valid
plain-items [] h = refl
plain-items (t ∷ ts) (a, r) = rw (plain-item t a, plain-items ts r)

-- a file whose items have flags zero and texts that are UTF-8 passes the gate, with these items
pub plain-gate : (s : List ℕ) (f : ℕ) (ts : List Item) → find_footer s ≡ Some f → fit s f ≡ true → parse (count_at s f) (area_at s f) ≡ Some ts → Each Plain ts
    → texts_valid ts ≡ true → gate_items s ≡ Some ts
unfolding gate_items
plain-gate s f ts a b c h v = rw (a, b, c, plain-items ts h, v)

-- what the published Rust reads: keys and values through `lossy`, flags zero
abbrev pub read_plain : ℕ → List ℕ → List Item
read_plain zero s = []
read_plain (suc n) s = found (head s) [] (λ h. text_item (lossy h.item.key) (lossy h.item.value) ∷ read_plain n h.rest)

-- where the flags that are read are zero, reading gives just that
pub plain-reading : (n : ℕ) (s : List ℕ) → Each Plain (read_items n s) → read_items n s ≡ read_plain n s
unfolding read_items read_value
plain-reading zero s k = refl
plain-reading (suc n) s k = go (head s) k (λ r. plain-reading n r)
  where
    go : (o : Option Head) → Each Plain (found o [] (λ h. converted h.item.flags h.item.key h.item.value ∷ read_items n h.rest))
        → ((r : List ℕ) → Each Plain (read_items n r) → read_items n r ≡ read_plain n r)
        → found o [] (λ h. converted h.item.flags h.item.key h.item.value ∷ read_items n h.rest)
        ≡ found o [] (λ h. text_item (lossy h.item.key) (lossy h.item.value) ∷ read_plain n h.rest)
    go None k ih = refl
    go (Some h) (a, r) ih = rw (a, ih h.rest r)
