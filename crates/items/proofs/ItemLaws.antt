-- Laws of items by key: get, set and without, and what an edit does to their number, their bytes and their reading.
use Prim.Native.Nat.{ℕ, zero, suc, ◌+◌, ◌≤◌, ◌<◌}
use native.Mathlib.Omega.{arith}
use mathlib.Core.Path.{◌≡◌, refl, sym, ap, ◌∙◌}
use mathlib.Core.Bool.{Bool, true, false, ◌||◌, cond, true≢false}
use Rattle.std.specs.Prelude.{Option, None, Some, option_map}
use mathlib.Core.List.{List, [], ◌∷◌}
use lib.ListN.{length, take, drop, length-append}
use lib.Dec.{eqb}
use Rattle.lists.specs.Bytes.{Small, place_of}
use Rattle.lists.specs.Choice.{found}
use Rattle.lists.proofs.Places.{small-drop}
use Rattle.keys.specs.Keys.{upper_all, same_key, is_mp3gain_key, is_undone, undo_key, minmax_key, is_key}
use Rattle.keys.proofs.Keys.{key-sym, key-upper, length-upper, Caseless, same-caseless, from-caseless, eight_are, printable-whole, printable-upper, key-printable}
use Rattle.items.specs.Items.{Item, area_bytes, size_of, Head, head, parse, items_in, get_item, set_item, with_value, new_item, without, remove_item, count_of}
use Rattle.items.proofs.Area.{AllSane, whole, length-area}

-- ---- get, set, without

pub get_set_same : (key value : List ℕ) (ts : List Item) → get_item key (set_item key value ts) ≡ Some value
unfolding get_item set_item
get_set_same key value [] = rw (key-sym (upper_all key) key (key-upper key))
get_set_same key value (t ∷ ts) = go (same_key key t.key) refl (get_set_same key value ts)
  where
    go : (a : Bool) → same_key key t.key ≡ a → get_item key (set_item key value ts) ≡ Some value → get_item key (set_item key value (t ∷ ts)) ≡ Some value
    go true e ih = rw (e, e)
    go false e ih = rw (e, e) ih

pub get_set_other : (key other value : List ℕ) (ts : List Item) → same_key key other ≡ false → get_item key (set_item other value ts) ≡ get_item key ts
unfolding get_item set_item
get_set_other key other value [] h = rw ((same-caseless key).cased (upper_all other) other (key-upper other), h)
get_set_other key other value (t ∷ ts) h = go (same_key other t.key) refl (get_set_other key other value ts h)
  where
    go : (a : Bool) → same_key other t.key ≡ a → get_item key (set_item other value ts) ≡ get_item key ts
        → get_item key (set_item other value (t ∷ ts)) ≡ get_item key (t ∷ ts)
    go true e ih =
        let f : same_key key t.key ≡ false = sym ((same-caseless key).cased other t.key e) ∙ h in
        rw (e, f)
    go false e ih = rw (e, ih)

module _ (p : List ℕ → Bool) (c : Caseless p) where
  pub get-without : (key : List ℕ) (ts : List Item) → p key ≡ false → get_item key (without p ts) ≡ get_item key ts
  unfolding get_item without
  get-without key [] h = refl
  get-without key (t ∷ ts) h = go (p t.key) (same_key key t.key) refl refl (get-without key ts h)
    where
      go : (a b : Bool) → p t.key ≡ a → same_key key t.key ≡ b → get_item key (without p ts) ≡ get_item key ts
          → get_item key (without p (t ∷ ts)) ≡ get_item key (t ∷ ts)
      go true true e f ih = absurd (true≢false (sym e ∙ sym (c.cased key t.key f) ∙ h))
      go true false e f ih = rw (e, f) ih
      go false b e f ih = rw (e, ih)

  -- an edit of what stays
  pub set-outside : (key value : List ℕ) (ts : List Item) → p key ≡ false → without p (set_item key value ts) ≡ set_item key value (without p ts)
  unfolding set_item without
  set-outside key value [] h =
      let f : p (upper_all key) ≡ false = c.cased (upper_all key) key (key-upper key) ∙ h in
      rw f
  set-outside key value (t ∷ ts) h = go (same_key key t.key) (p t.key) refl refl (set-outside key value ts h)
    where
      go : (a b : Bool) → same_key key t.key ≡ a → p t.key ≡ b → without p (set_item key value ts) ≡ set_item key value (without p ts)
          → without p (set_item key value (t ∷ ts)) ≡ set_item key value (without p (t ∷ ts))
      go true b e f ih =
          let g : p t.key ≡ false = sym (c.cased key t.key e) ∙ h in
          rw (e, g, e)
      go false true e f ih = rw (e, f) ih
      go false false e f ih = rw (e, f, e, ih)

  -- an edit of what goes
  pub set-inside : (key value : List ℕ) (ts : List Item) → p key ≡ true → without p (set_item key value ts) ≡ without p ts
  unfolding set_item without
  set-inside key value [] h =
      let f : p (upper_all key) ≡ true = c.cased (upper_all key) key (key-upper key) ∙ h in
      rw f
  set-inside key value (t ∷ ts) h = go (same_key key t.key) refl (set-inside key value ts h)
    where
      go : (a : Bool) → same_key key t.key ≡ a → without p (set_item key value ts) ≡ without p ts → without p (set_item key value (t ∷ ts)) ≡ without p (t ∷ ts)
      go true e ih =
          let g : p t.key ≡ true = sym (c.cased key t.key e) ∙ h in
          rw (e, g)
      go false e ih = rw (e, ih)

pub without-without : (p q : List ℕ → Bool) (ts : List Item) → without p (without q ts) ≡ without q (without p ts)
unfolding without
without-without p q [] = refl
without-without p q (t ∷ ts) = go (p t.key) (q t.key) refl refl (without-without p q ts)
  where
    go : (a b : Bool) → p t.key ≡ a → q t.key ≡ b → without p (without q ts) ≡ without q (without p ts)
        → without p (without q (t ∷ ts)) ≡ without q (without p (t ∷ ts))
    go true true e f ih = rw (e, f) ih
    go true false e f ih = rw (e, f, e) ih
    go false true e f ih = rw (e, f) ih
    go false false e f ih = rw (e, f, e, ih)

pub without-less : (p q : List ℕ → Bool) (ts : List Item) → ((key : List ℕ) → q key ≡ true → p key ≡ true) → without p (without q ts) ≡ without p ts
unfolding without
without-less p q [] h = refl
without-less p q (t ∷ ts) h = go (q t.key) refl (without-less p q ts h)
  where
    go : (a : Bool) → q t.key ≡ a → without p (without q ts) ≡ without p ts → without p (without q (t ∷ ts)) ≡ without p (t ∷ ts)
    go true e ih = rw (e, h t.key e) ih
    go false e ih = rw (e, ih)

-- two droppings are one
pub without-or : (p q : List ℕ → Bool) (ts : List Item) → without p (without q ts) ≡ without (λ k. q k || p k) ts
unfolding without
without-or p q [] = refl
without-or p q (t ∷ ts) = go (q t.key) (p t.key) refl refl (without-or p q ts)
  where
    go : (a b : Bool) → q t.key ≡ a → p t.key ≡ b → without p (without q ts) ≡ without (λ k. q k || p k) ts
        → without p (without q (t ∷ ts)) ≡ without (λ k. q k || p k) (t ∷ ts)
    go true b e f ih = rw e ih
    go false true e f ih = rw (e, f) ih
    go false false e f ih = rw (e, f, ih)

-- tests that agree drop the same
pub without-same : (p q : List ℕ → Bool) → ((k : List ℕ) → p k ≡ q k) → (ts : List Item) → without p ts ≡ without q ts
unfolding without
without-same p q h [] = refl
without-same p q h (t ∷ ts) = rw (h t.key, without-same p q h ts)

-- ---- the eight keys: an edit by another key commutes with dropping them

module _ (key : List ℕ) (other : is_mp3gain_key key ≡ false) where
  pub set-eight : (value : List ℕ) (ts : List Item) → without is_mp3gain_key (set_item key value ts) ≡ set_item key value (without is_mp3gain_key ts)
  set-eight value ts = set-outside is_mp3gain_key (from-caseless 0) key value ts other

  pub get-eight : (ts : List Item) → get_item key (without is_mp3gain_key ts) ≡ get_item key ts
  get-eight ts = get-without is_mp3gain_key (from-caseless 0) key ts other

pub remove-eight : (key : List ℕ) (ts : List Item) → without is_mp3gain_key (remove_item key ts) ≡ remove_item key (without is_mp3gain_key ts)
remove-eight key ts = without-without is_mp3gain_key (same_key key) ts

-- what undo drops, UNDONE_KEYS, MP3GAIN_UNDO and MP3GAIN_MINMAX, is the eight
pub undo-drops : (ts : List Item) → remove_item minmax_key (remove_item undo_key (without is_undone ts)) ≡ without is_mp3gain_key ts
undo-drops ts =
    without-without (same_key minmax_key) (same_key undo_key) (without is_undone ts)
    ∙ ap (without (same_key undo_key)) (without-or (same_key minmax_key) is_undone ts)
    ∙ without-or (same_key undo_key) (λ k. is_undone k || same_key minmax_key k) ts
    ∙ without-same _ is_mp3gain_key (λ k. turned (is_undone k) (same_key minmax_key k) (same_key undo_key k) ∙ sym (eight_are k)) ts
  where
    turned : (a b c : Bool) → ((a || b) || c) ≡ (a || (c || b))
    turned true b c = refl
    turned false true true = refl
    turned false true false = refl
    turned false false true = refl
    turned false false false = refl

-- a key removed is not got
pub get-removed : (key : List ℕ) (ts : List Item) → get_item key (remove_item key ts) ≡ None
unfolding get_item without
get-removed key [] = refl
get-removed key (t ∷ ts) = go (same_key key t.key) refl (get-removed key ts)
  where
    go : (a : Bool) → same_key key t.key ≡ a → get_item key (remove_item key ts) ≡ None → get_item key (remove_item key (t ∷ ts)) ≡ None
    go true e ih = rw e ih
    go false e ih = rw (e, e) ih

-- ---- how many items pass a test

module _ (p : List ℕ → Bool) where
  pub count_none : count_of p [] ≡ 0
  unfolding count_of
  count_none = refl

  pub count-one : (t : Item) (ts : List Item) → p t.key ≡ true → count_of p (t ∷ ts) ≡ 1 + count_of p ts
  unfolding count_of
  count-one t ts e = rw e

  pub count_next : (t : Item) (ts : List Item) → p t.key ≡ false → count_of p (t ∷ ts) ≡ count_of p ts
  unfolding count_of
  count_next t ts e = rw e (omega arith)

  -- dropping adds none
  pub count_kept : (q : List ℕ → Bool) (ts : List Item) → count_of p (without q ts) ≤ count_of p ts
  unfolding count_of without
  count_kept q [] = omega arith
  count_kept q (t ∷ ts) = go (q t.key) refl (count_kept q ts)
    where
      go : (a : Bool) → q t.key ≡ a → count_of p (without q ts) ≤ count_of p ts → count_of p (without q (t ∷ ts)) ≤ cond (p t.key) 1 0 + count_of p ts
      go true e ih = rw e (omega arith)
      go false e ih = rw e (omega arith)

  -- nor does a test that passes fewer keys
  pub count-fewer : (q : List ℕ → Bool) → ((k : List ℕ) → q k ≡ true → p k ≡ true) → (ts : List Item) → count_of q ts ≤ count_of p ts
  unfolding count_of
  count-fewer q h [] = omega arith
  count-fewer q h (t ∷ ts) = go (q t.key) refl (count-fewer q h ts)
    where
      go : (a : Bool) → q t.key ≡ a → count_of q ts ≤ count_of p ts → cond (q t.key) 1 0 + count_of q ts ≤ cond (p t.key) 1 0 + count_of p ts
      go true e ih = rw (e, h t.key e) (omega arith)
      go false e ih = rw e (omega arith)

  -- nor an edit by a key that does not pass
  pub count-outside : Caseless p → (key value : List ℕ) → p key ≡ false → (ts : List Item) → count_of p (set_item key value ts) ≡ count_of p ts
  unfolding count_of set_item
  count-outside c key value h [] = rw (c.cased (upper_all key) key (key-upper key) ∙ h)
  count-outside c key value h (t ∷ ts) = go (same_key key t.key) refl (count-outside c key value h ts)
    where
      go : (a : Bool) → same_key key t.key ≡ a → count_of p (set_item key value ts) ≡ count_of p ts → count_of p (set_item key value (t ∷ ts)) ≡ cond (p t.key) 1 0 + count_of p ts
      go true e ih = rw e
      go false e ih = rw (e, ih)

-- an item that is set stands there once, where it did not stand there twice
pub count-set-once : (key value : List ℕ) (ts : List Item) → count_of (same_key key) ts ≤ 1 → count_of (same_key key) (set_item key value ts) ≤ 1
unfolding count_of set_item
count-set-once key value [] h = rw (key-sym (upper_all key) key (key-upper key)) (omega arith)
count-set-once key value (t ∷ ts) h = go (same_key key t.key) refl (count-set-once key value ts)
  where
    go : (a : Bool) → same_key key t.key ≡ a → (count_of (same_key key) ts ≤ 1 → count_of (same_key key) (set_item key value ts) ≤ 1)
        → count_of (same_key key) (set_item key value (t ∷ ts)) ≤ 1
    go true e ih = rw (e, e) (omega (arith, rw e at h))
    go false e ih = rw (e, e) (omega (arith, ih (omega (arith, rw e at h))))

-- ---- sizes

pub count-without : (p : List ℕ → Bool) (ts : List Item) → length (without p ts) ≤ length ts
unfolding without
count-without p [] = omega arith
count-without p (t ∷ ts) = go (p t.key) refl (count-without p ts)
  where
    go : (a : Bool) → p t.key ≡ a → length (without p ts) ≤ length ts → length (without p (t ∷ ts)) ≤ length (t ∷ ts)
    go true e ih = rw e (omega arith)
    go false e ih = rw e (omega arith)

pub area-without : (p : List ℕ → Bool) (ts : List Item) → length (area_bytes (without p ts)) ≤ length (area_bytes ts)
unfolding without area_bytes
area-without p [] = omega arith
area-without p (t ∷ ts) = go (p t.key) refl (area-without p ts)
  where
    go : (a : Bool) → p t.key ≡ a → length (area_bytes (without p ts)) ≤ length (area_bytes ts) → length (area_bytes (without p (t ∷ ts))) ≤ length (area_bytes (t ∷ ts))
    go true e ih = rw e (simp length-append (omega arith))
    go false e ih = rw e (simp length-append (omega arith))

pub count_set : (key value : List ℕ) (ts : List Item) → (length ts ≤ length (set_item key value ts)) × (length (set_item key value ts) ≤ length ts + 1)
unfolding set_item
count_set key value [] = (omega arith, omega arith)
count_set key value (t ∷ ts) = go (same_key key t.key) refl (count_set key value ts)
  where
    go : (a : Bool) → same_key key t.key ≡ a → (length ts ≤ length (set_item key value ts)) × (length (set_item key value ts) ≤ length ts + 1)
        → (length (t ∷ ts) ≤ length (set_item key value (t ∷ ts))) × (length (set_item key value (t ∷ ts)) ≤ length (t ∷ ts) + 1)
    go true e ih = rw e (omega arith, omega arith)
    go false e ih = rw e (omega arith, omega arith)

pub area_set : (key value : List ℕ) (ts : List Item) → length (area_bytes (set_item key value ts)) ≤ length (area_bytes ts) + 9 + length key + length value
unfolding set_item
area_set key value [] = let n = length-upper key in omega (arith, length-area (new_item key value) [])
area_set key value (t ∷ ts) = go (same_key key t.key) refl (area_set key value ts)
  where
    go : (a : Bool) → same_key key t.key ≡ a → length (area_bytes (set_item key value ts)) ≤ length (area_bytes ts) + 9 + length key + length value
        → length (area_bytes (set_item key value (t ∷ ts))) ≤ length (area_bytes (t ∷ ts)) + 9 + length key + length value
    go true e ih = rw e (omega (arith, length-area (with_value value t) ts, length-area t ts))
    go false e ih = rw e (omega (arith, length-area t (set_item key value ts), length-area t ts))

-- ---- items that can be read back

pub sane-without : (p : List ℕ → Bool) (ts : List Item) → AllSane ts → AllSane (without p ts)
unfolding without
sane-without p [] s = tt
sane-without p (t ∷ ts) (s, r) = go (p t.key) refl (sane-without p ts r)
  where
    go : (a : Bool) → p t.key ≡ a → AllSane (without p ts) → AllSane (without p (t ∷ ts))
    go true e ih = rw e ih
    go false e ih = rw e (s, ih)

pub sane-set : (key value : List ℕ) (ts : List Item) → place_of 0 (upper_all key) ≡ length (upper_all key) → AllSane ts → AllSane (set_item key value ts)
unfolding set_item
sane-set key value [] n s = ((n, omega arith), tt)
sane-set key value (t ∷ ts) n (s, r) = go (same_key key t.key) refl (sane-set key value ts n r)
  where
    go : (a : Bool) → same_key key t.key ≡ a → AllSane (set_item key value ts) → AllSane (set_item key value (t ∷ ts))
    go true e ih = rw e ((s.0, omega arith), r)
    go false e ih = rw e (s, ih)

-- a key that was read has no zero byte
pub key-sane : (s : List ℕ) → place_of 0 (take (place_of 0 s) s) ≡ length (take (place_of 0 s) s)
unfolding place_of
key-sane [] = refl
key-sane (x ∷ s) = go (eqb x 0) refl (key-sane s)
  where
    go : (t : Bool) → eqb x 0 ≡ t → place_of 0 (take (place_of 0 s) s) ≡ length (take (place_of 0 s) s)
        → place_of 0 (take (cond t 0 (suc (place_of 0 s))) (x ∷ s)) ≡ length (take (cond t 0 (suc (place_of 0 s))) (x ∷ s))
    go true e ih = refl
    go false e ih = rw e (ap suc ih)

-- the keys of items that were read
abbrev pub KeysSane : List Item → Type 0
KeysSane [] = Unit {0}
KeysSane (t ∷ ts) = (place_of 0 t.key ≡ length t.key) × KeysSane ts

-- and their flags
abbrev pub FlagsSane : List Item → Type 0
FlagsSane [] = Unit {0}
FlagsSane (t ∷ ts) = (t.flags < 4294967296) × FlagsSane ts

pub sane-both : (ts : List Item) → KeysSane ts → FlagsSane ts → AllSane ts
sane-both [] k f = tt
sane-both (t ∷ ts) (k, l) (f, g) = ((k, f), sane-both ts l g)

-- an item that was read has no zero byte in its key
head-key : (s : List ℕ) (h : Head) → head s ≡ Some h → place_of 0 h.item.key ≡ length h.item.key
head-key s h q =
    let w = whole s h q in
    let k : h.item.key ≡ take (place_of 0 (drop 8 s)) (drop 8 s) = w.key-is ∙ ap (λ (i : ℕ). take i (drop 8 s)) w.key-long in
    rw k (key-sane (drop 8 s))

pub parse-keys : (n : ℕ) (s : List ℕ) → KeysSane (items_in n s)
unfolding parse
parse-keys zero [] = tt
parse-keys zero (x ∷ s) = tt
parse-keys (suc n) s = go (head s) refl (λ r. parse-keys n r)
  where
    inner : (h : Head) (o : Option (List Item)) → place_of 0 h.item.key ≡ length h.item.key → KeysSane (found o [] (λ ts. ts))
        → KeysSane (found (option_map (λ ts. h.item ∷ ts) o) [] (λ ts. ts))
    inner h None k ih = tt
    inner h (Some ts) k ih = (k, ih)

    go : (o : Option Head) → head s ≡ o → ((r : List ℕ) → KeysSane (items_in n r)) → KeysSane (items_in (suc n) s)
    go None q ih = rw q tt
    go (Some h) q ih = rw q (inner h (parse n h.rest) (head-key s h q) (ih h.rest))

-- the flags of items that were read from bytes
pub parse-flags : (n : ℕ) (s : List ℕ) → Small s → FlagsSane (items_in n s)
unfolding parse
parse-flags zero [] b = tt
parse-flags zero (x ∷ s) b = tt
parse-flags (suc n) s b = go (head s) refl (λ r. parse-flags n r)
  where
    inner : (h : Head) (o : Option (List Item)) → h.item.flags < 4294967296 → FlagsSane (found o [] (λ ts. ts))
        → FlagsSane (found (option_map (λ ts. h.item ∷ ts) o) [] (λ ts. ts))
    inner h None k ih = tt
    inner h (Some ts) k ih = (k, ih)

    go : (o : Option Head) → head s ≡ o → ((r : List ℕ) → Small r → FlagsSane (items_in n r)) → FlagsSane (items_in (suc n) s)
    go None q ih = rw q tt
    go (Some h) q ih =
        let w = whole s h q in
        let r : Small h.rest = rw w.after (small-drop s (size_of h.item) b) in
        rw q (inner h (parse n h.rest) (omega (arith, w.flags-are, b 4, b 5, b 6, b 7)) (ih h.rest r))

-- items that were read from bytes can be written and read back
pub parse-sane : (n : ℕ) (s : List ℕ) → Small s → AllSane (items_in n s)
parse-sane n s b = sane-both (items_in n s) (parse-keys n s) (parse-flags n s b)

-- a good key can be read back as it is set
pub sane-key : (key : List ℕ) → is_key key ≡ true → place_of 0 (upper_all key) ≡ length (upper_all key)
sane-key key k = printable-whole (upper_all key) (printable-upper key (key-printable key k))
