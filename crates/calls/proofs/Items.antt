-- Laws of the items that calls leave: what they make of other keys, and that they stay good.
use Prim.Native.Nat.{ℕ, ◌+◌, ◌≤◌}
use native.Mathlib.Omega.{arith}
use mathlib.Core.Path.{◌≡◌, refl, sym, ap, ◌∙◌}
use mathlib.Core.Bool.{Bool, true, false, cond, true≢false}
use Rattle.std.specs.Prelude.{Option, None, Some}
use mathlib.Core.List.{List, [], ◌∷◌, map}
use lib.Dec.{leb, ltb}
use lib.IntN.{ℤ}
use borrow.Author.Tests.{le-leb, lt-ltb, ltb-true}
use Rattle.lists.specs.Bytes.{all, same}
use Rattle.lists.specs.Choice.{found}
use Rattle.frame.specs.declared.GainMode.{GainMode}
use Rattle.frame.specs.declared.GainMode.TheVariants.{Saturating, Wrapping}
use Rattle.utf8.specs.Utf8.{valid}
use Rattle.keys.specs.Keys.{upper, upper_all, same_key, which_key, is_from, is_mp3gain_key, is_undone, undo_key, minmax_key, printable}
use Rattle.keys.proofs.Keys.{key-sym, same-caseless, from-caseless, undone-eight, undo-eight, not-undo, printable-whole}
use Rattle.values.specs.Stored.{kind_of, wraps_out_by, range_wraps_out, shift_stored}
use Rattle.values.specs.declared.Kind.TheVariants.{Other}
use Rattle.values.proofs.ReadBack.{plain-undo, plain-range}
use Rattle.values.proofs.Texts.{stored_short}
use Rattle.items.specs.Items.{Item, type_of, is_binary, as_text, get_item, with_value, set_item, without, count_of}
use Rattle.items.proofs.Area.{Sane, AllSane}
use Rattle.items.proofs.ItemLaws.{FlagsSane, count_kept, count-outside, count-set-once, set-inside, without-less, sane-without, sane-set}
use Rattle.calls.specs.Gate.{flags_fit, item_valid, all_valid}
use Rattle.calls.specs.Calls.{Level, staying, shift_item, shift_stored_gain, booked, wraps, range_of, same_step, shifted_items, levelled_items, others}
use Rattle.calls.proofs.Lists.{both, and-of, or-of}
use Rattle.calls.proofs.Texts.{plain-valid}

-- ---- items of none of the eight keys

-- no item passes the test: dropping by it changes nothing
pub none_dropped : (p : List ℕ → Bool) (ts : List Item) → count_of p ts ≡ 0 → without p ts ≡ ts
unfolding count_of without
none_dropped p [] e = refl
none_dropped p (t ∷ ts) e = go (p t.key) refl e (none_dropped p ts)
  where
    go : (b : Bool) → p t.key ≡ b → cond b 1 0 + count_of p ts ≡ 0 → (count_of p ts ≡ 0 → without p ts ≡ ts) → without p (t ∷ ts) ≡ t ∷ ts
    go true q e ih = absurd (omega arith)
    go false q e ih = rw (q, ih (omega arith))

pub not-by-undo : (key : List ℕ) → is_mp3gain_key key ≡ false → same_key undo_key key ≡ false
not-by-undo key n = go (same_key undo_key key) refl
  where
    go : (b : Bool) → same_key undo_key key ≡ b → same_key undo_key key ≡ false
    go true e = absurd (true≢false (sym (key-sym undo_key key e) ∙ not-undo key n))
    go false e = e

-- an undo item is one of the eight
pub by-undo : (key : List ℕ) → same_key undo_key key ≡ true → is_mp3gain_key key ≡ true
by-undo key e = go (is_mp3gain_key key) refl
  where
    go : (b : Bool) → is_mp3gain_key key ≡ b → is_mp3gain_key key ≡ true
    go true q = q
    go false q = absurd (true≢false (sym e ∙ not-by-undo key q))

pub none-got : (ts : List Item) → count_of is_mp3gain_key ts ≡ 0 → get_item undo_key ts ≡ None
unfolding count_of get_item
none-got [] e = refl
none-got (t ∷ ts) e = go (is_mp3gain_key t.key) refl e (none-got ts)
  where
    go : (b : Bool) → is_mp3gain_key t.key ≡ b → cond b 1 0 + count_of is_mp3gain_key ts ≡ 0 → (count_of is_mp3gain_key ts ≡ 0 → get_item undo_key ts ≡ None)
        → get_item undo_key (t ∷ ts) ≡ None
    go true q e ih = absurd (omega arith)
    go false q e ih = rw (not-by-undo t.key q) (ih (omega arith))

-- ---- what the gate asks of items

-- flags of text fit
text-fits : (flags : ℕ) → flags_fit (as_text flags) ≡ true
text-fits flags = and-of (le-leb (type_of (as_text flags)) 2 (omega arith)) (lt-ltb (as_text flags) 8 (omega arith))

-- an item with another value, which is UTF-8
valid-value : (value : List ℕ) (t : Item) → valid value ≡ true → item_valid t ≡ true → item_valid (with_value value t) ≡ true
unfolding item_valid
valid-value value t v h =
    let (_, k) = both (flags_fit t.flags) _ h in
    let (a, _) = both (valid t.key) _ k in
    and-of (text-fits t.flags) (and-of a (or-of (is_binary (as_text t.flags)) v))

pub valid-without : (p : List ℕ → Bool) (ts : List Item) → all_valid ts ≡ true → all_valid (without p ts) ≡ true
unfolding all_valid without
valid-without p [] v = refl
valid-without p (t ∷ ts) v = go (p t.key) refl (valid-without p ts)
  where
    go : (b : Bool) → p t.key ≡ b → (all_valid ts ≡ true → all_valid (without p ts) ≡ true) → all_valid (without p (t ∷ ts)) ≡ true
    go true q ih = rw q (ih (both (item_valid t) (all_valid ts) v).1)
    go false q ih = let (a, b) = both (item_valid t) (all_valid ts) v in rw q (and-of a (ih b))

pub valid-set : (key value : List ℕ) (ts : List Item) → valid (upper_all key) ≡ true → valid value ≡ true → all_valid ts ≡ true
    → all_valid (set_item key value ts) ≡ true
unfolding item_valid all_valid set_item
valid-set key value [] k v h = rw (k, v)
valid-set key value (t ∷ ts) k v h = go (same_key key t.key) refl (valid-set key value ts k v)
  where
    go : (b : Bool) → same_key key t.key ≡ b → (all_valid ts ≡ true → all_valid (set_item key value ts) ≡ true) → all_valid (set_item key value (t ∷ ts)) ≡ true
    go true q ih = let (a, c) = both (item_valid t) (all_valid ts) h in rw q (and-of (valid-value value t v a) c)
    go false q ih = let (a, c) = both (item_valid t) (all_valid ts) h in rw q (and-of a (ih c))

-- their flags are numbers of four bytes
pub valid-flags : (ts : List Item) → all_valid ts ≡ true → FlagsSane ts
unfolding item_valid all_valid
valid-flags [] v = tt
valid-flags (t ∷ ts) v =
    let (a, b) = both (item_valid t) (all_valid ts) v in
    let (f, _) = both (flags_fit t.flags) _ a in
    let (_, n) = both (leb (type_of t.flags) 2) (ltb t.flags 8) f in
    (omega (arith, ltb-true t.flags 8 n), valid-flags ts b)

-- ---- the shift of stored values: it touches only items of the eight keys

-- a key that is none of the eight holds no value that is shifted or dropped
other-kind : (key : List ℕ) → is_mp3gain_key key ≡ false → kind_of key ≡ Other
unfolding kind_of is_from
other-kind key e = go (which_key key) refl e
  where
    go : (o : Option ℕ) → which_key key ≡ o → found o false (λ i. leb 0 i) ≡ false → kind_of key ≡ Other
    go None q e = rw q
    go (Some i) q e = absurd (true≢false (sym (le-leb 0 i (omega arith)) ∙ e))

out-eight : (z : ℤ) (key value : List ℕ) → range_wraps_out key value z ≡ true → is_mp3gain_key key ≡ true
unfolding range_wraps_out
out-eight z key value e = go (is_mp3gain_key key) refl
  where
    go : (b : Bool) → is_mp3gain_key key ≡ b → is_mp3gain_key key ≡ true
    go true q = q
    go false q = absurd (true≢false (sym e ∙ ap (λ k. wraps_out_by k value z) (other-kind key q)))

staying-others : (m : GainMode) (z : ℤ) (ts : List Item) → others (staying m z ts) ≡ others ts
unfolding others staying without
staying-others Saturating z ts = refl
staying-others Wrapping z [] = refl
staying-others Wrapping z (t ∷ ts) = go (range_wraps_out t.key t.value z) refl (staying-others Wrapping z ts)
  where
    go : (a : Bool) → range_wraps_out t.key t.value z ≡ a → others (staying Wrapping z ts) ≡ others ts → others (staying Wrapping z (t ∷ ts)) ≡ others (t ∷ ts)
    go true e ih = rw (e, out-eight z t.key t.value e) ih
    go false e ih = rw (e, ih)

-- an item of another key stays as it is
shift-other : (z : ℤ) (t : Item) → is_mp3gain_key t.key ≡ false → shift_item z t ≡ t
unfolding shift_item shift_stored
shift-other z t e = rw (other-kind t.key e)

-- keys stay as they are
pub shift-key : (z : ℤ) (t : Item) → (shift_item z t).key ≡ t.key
unfolding shift_item
shift-key z t = go (shift_stored t.key t.value z)
  where
    go : (o : Option (List ℕ)) → (found o t (λ w. with_value w t)).key ≡ t.key
    go None = refl
    go (Some w) = refl

map-others : (z : ℤ) (ts : List Item) → others (map (shift_item z) ts) ≡ others ts
unfolding others without
map-others z [] = refl
map-others z (t ∷ ts) = go (is_mp3gain_key t.key) refl (map-others z ts)
  where
    go : (a : Bool) → is_mp3gain_key t.key ≡ a → others (map (shift_item z) ts) ≡ others ts → others (map (shift_item z) (t ∷ ts)) ≡ others (t ∷ ts)
    go true e ih = rw (shift-key z t, e) ih
    go false e ih = rw (shift-other z t e, e, ih)

pub shift-others : (m : GainMode) (z : ℤ) (ts : List Item) → others (shift_stored_gain m z ts) ≡ others ts
unfolding shift_stored_gain
shift-others m z ts = map-others z (staying m z ts) ∙ staying-others m z ts

-- ---- and its texts are UTF-8

item-valid : (z : ℤ) (t : Item) → item_valid t ≡ true → item_valid (shift_item z t) ≡ true
unfolding shift_item
item-valid z t v = go (shift_stored t.key t.value z) refl
  where
    go : (o : Option (List ℕ)) → shift_stored t.key t.value z ≡ o → item_valid (found o t (λ w. with_value w t)) ≡ true
    go None e = v
    go (Some w) e = valid-value w t (plain-valid w (stored_short t.key t.value z w e).plain) v

map-valid : (z : ℤ) (ts : List Item) → all_valid ts ≡ true → all_valid (map (shift_item z) ts) ≡ true
unfolding all_valid
map-valid z [] v = refl
map-valid z (t ∷ ts) v = let (a, b) = both (item_valid t) (all_valid ts) v in and-of (item-valid z t a) (map-valid z ts b)

staying-valid : (m : GainMode) (z : ℤ) (ts : List Item) → all_valid ts ≡ true → all_valid (staying m z ts) ≡ true
unfolding staying all_valid
staying-valid Saturating z ts v = v
staying-valid Wrapping z [] v = refl
staying-valid Wrapping z (t ∷ ts) v = go (range_wraps_out t.key t.value z) (staying-valid Wrapping z ts)
  where
    go : (a : Bool) → (all_valid ts ≡ true → all_valid (staying Wrapping z ts) ≡ true) → all_valid (cond a (staying Wrapping z ts) (t ∷ staying Wrapping z ts)) ≡ true
    go true ih = ih (both (item_valid t) (all_valid ts) v).1
    go false ih = let (a, b) = both (item_valid t) (all_valid ts) v in and-of a (ih b)

pub shift-valid : (m : GainMode) (z : ℤ) (ts : List Item) → all_valid ts ≡ true → all_valid (shift_stored_gain m z ts) ≡ true
unfolding shift_stored_gain
shift-valid m z ts v = map-valid z (staying m z ts) (staying-valid m z ts v)

item-sane : (z : ℤ) (t : Item) → Sane t → Sane (shift_item z t)
unfolding shift_item
item-sane z t s = go (shift_stored t.key t.value z)
  where
    go : (o : Option (List ℕ)) → Sane (found o t (λ w. with_value w t))
    go None = s
    go (Some w) = (s.0, omega arith)

map-sane : (z : ℤ) (ts : List Item) → AllSane ts → AllSane (map (shift_item z) ts)
map-sane z [] s = tt
map-sane z (t ∷ ts) (s, r) = (item-sane z t s, map-sane z ts r)

staying-sane : (m : GainMode) (z : ℤ) (ts : List Item) → AllSane ts → AllSane (staying m z ts)
unfolding staying
staying-sane Saturating z ts s = s
staying-sane Wrapping z [] s = tt
staying-sane Wrapping z (t ∷ ts) (s, r) = go (range_wraps_out t.key t.value z) (staying-sane Wrapping z ts r)
  where
    go : (a : Bool) → AllSane (staying Wrapping z ts) → AllSane (cond a (staying Wrapping z ts) (t ∷ staying Wrapping z ts))
    go true ih = ih
    go false ih = (s, ih)

pub shift-sane : (m : GainMode) (z : ℤ) (ts : List Item) → AllSane ts → AllSane (shift_stored_gain m z ts)
unfolding shift_stored_gain
shift-sane m z ts s = map-sane z (staying m z ts) (staying-sane m z ts s)

-- ---- the items that level leaves

pub key-facts : (same_key undo_key minmax_key ≡ false) × (all printable (upper_all undo_key) ≡ true) × (all printable (upper_all minmax_key) ≡ true)
unfolding same_key same upper_all upper undo_key minmax_key all
key-facts = (refl, refl, refl)

-- ---- no item comes twice

module _ (p : List ℕ → Bool) where
  map-count : (z : ℤ) (ts : List Item) → count_of p (map (shift_item z) ts) ≡ count_of p ts
  unfolding count_of
  map-count z [] = refl
  map-count z (t ∷ ts) = rw (shift-key z t, map-count z ts)

  staying-count : (m : GainMode) (z : ℤ) (ts : List Item) → count_of p (staying m z ts) ≤ count_of p ts
  unfolding staying count_of
  staying-count Saturating z ts = omega arith
  staying-count Wrapping z [] = omega arith
  staying-count Wrapping z (t ∷ ts) = go (range_wraps_out t.key t.value z) (staying-count Wrapping z ts)
    where
      go : (a : Bool) → count_of p (staying Wrapping z ts) ≤ count_of p ts → count_of p (cond a (staying Wrapping z ts) (t ∷ staying Wrapping z ts)) ≤ cond (p t.key) 1 0 + count_of p ts
      go true ih = omega arith
      go false ih = omega arith

  shifted-count : (l : Level) (ts : List Item) → count_of p (shifted_items l ts) ≤ count_of p ts
  unfolding shifted_items shift_stored_gain
  shifted-count l ts = go (same_step l.left l.right) refl
    where
      go : (a : Bool) → same_step l.left l.right ≡ a → count_of p (shifted_items l ts) ≤ count_of p ts
      go true e = rw e (omega (arith, map-count l.left (staying l.mode l.left ts), staying-count l.mode l.left ts))
      go false e = rw e (count_kept p is_undone ts)

pub level-once : (l : Level) (ts : List Item) (gs : List ℕ) → count_of (same_key undo_key) ts ≤ 1 → count_of (same_key undo_key) (levelled_items l ts gs) ≤ 1
unfolding levelled_items
level-once l ts gs h =
    rw (count-outside (same_key undo_key) (same-caseless undo_key) minmax_key _ key-facts.0 _)
    (count-set-once undo_key _ (shifted_items l ts) (omega (arith, shifted-count (same_key undo_key) l ts)))

module _ (l : Level) (ts : List Item) where
  shifted-others : others (shifted_items l ts) ≡ others ts
  unfolding shifted_items
  shifted-others = go (same_step l.left l.right) refl
    where
      go : (a : Bool) → same_step l.left l.right ≡ a → others (shifted_items l ts) ≡ others ts
      go true e = rw e (shift-others l.mode l.left ts)
      go false e = rw e (unfold others in without-less is_mp3gain_key is_undone ts undone-eight)

  pub shifted-sane : AllSane ts → AllSane (shifted_items l ts)
  unfolding shifted_items
  shifted-sane s = go (same_step l.left l.right) refl
    where
      go : (a : Bool) → same_step l.left l.right ≡ a → AllSane (shifted_items l ts)
      go true e = rw e (shift-sane l.mode l.left ts s)
      go false e = rw e (sane-without is_undone ts s)

  shifted-valid : all_valid ts ≡ true → all_valid (shifted_items l ts) ≡ true
  unfolding shifted_items
  shifted-valid v = go (same_step l.left l.right) refl
    where
      go : (a : Bool) → same_step l.left l.right ≡ a → all_valid (shifted_items l ts) ≡ true
      go true e = rw e (shift-valid l.mode l.left ts v)
      go false e = rw e (valid-without is_undone ts v)

  module _ (gs : List ℕ) where
    -- level changes nothing beside the eight keys
    pub level-others : others (levelled_items l ts gs) ≡ others ts
    unfolding levelled_items others
    level-others =
        set-inside is_mp3gain_key (from-caseless 0) minmax_key _ _ undo-eight.1
        ∙ set-inside is_mp3gain_key (from-caseless 0) undo_key _ _ undo-eight.0
        ∙ shifted-others

    pub level-sane : AllSane ts → AllSane (levelled_items l ts gs)
    unfolding levelled_items
    level-sane s =
        sane-set minmax_key _ _ (printable-whole (upper_all minmax_key) key-facts.2)
        (sane-set undo_key _ _ (printable-whole (upper_all undo_key) key-facts.1) (shifted-sane s))

    pub level-valid : all_valid ts ≡ true → all_valid (levelled_items l ts gs) ≡ true
    unfolding levelled_items
    level-valid v =
        valid-set minmax_key _ _ (plain-valid (upper_all minmax_key) key-facts.2) (plain-valid _ (plain-range (range_of gs)))
        (valid-set undo_key _ _ (plain-valid (upper_all undo_key) key-facts.1) (plain-valid _ (plain-undo (booked l ts).left (booked l ts).right (wraps l.mode))) (shifted-valid v))
