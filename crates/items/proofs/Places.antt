-- The place of the first match: what get and set do is done there.
use Prim.Native.Nat.{ℕ, ◌+◌, ◌-◌, ◌≤◌}
use native.Mathlib.Omega.{arith}
use mathlib.Core.Path.{◌≡◌, refl, sym, ap, ◌∙◌}
use mathlib.Core.Bool.{Bool, true, false}
use Rattle.std.specs.Prelude.{Option, None, Some, option_map}
use Rattle.std.proofs.lemmas.Option.{none-some, same_Some}
use mathlib.Core.List.{List, [], ◌∷◌, ◌++◌, append_assoc, append-nil}
use lib.ListN.{length, take, drop, length-append}
use lib.Seq.{take_at, drop_at}
use Rattle.lists.specs.Bytes.{Small}
use Rattle.lists.specs.Choice.{is_some}
use Rattle.lists.specs.Le.{u32le}
use Rattle.keys.specs.Keys.{same_key}
use Rattle.keys.proofs.Keys.{length-upper}
use Rattle.items.specs.Items.{Item, item_bytes, area_bytes, size_of, parse, items_in, get_item, set_item, with_value, new_item}
use Rattle.items.specs.Answers.{locate_in, found_at, value_of}
use Rattle.items.specs.declared.Place.{Place}
use Rattle.items.proofs.Area.{length-item, length-area, area-items, area-append}

-- the items before the match, the match, and the items behind it
pub record Split (key : List ℕ) (at : ℕ) (ts : List Item) (a k e : ℕ) : Type 0 where
  pub front : List Item
  pub item : Item
  pub back : List Item
  pub list : ts ≡ front ++ (item ∷ back)
  pub start : a ≡ at + length (area_bytes front)
  pub key-end : k ≡ a + 8 + length item.key
  pub end : e ≡ a + size_of item
  pub got : get_item key ts ≡ Some item.value
  pub put : (value : List ℕ) → set_item key value ts ≡ front ++ (with_value value item ∷ back)

pub split : (key : List ℕ) (at : ℕ) (ts : List Item) (p : Place) → locate_in key at ts ≡ Some p → Split key at ts p.start p.key_end p.end
unfolding locate_in get_item set_item area_bytes
split key at [] p q = absurd (none-some _ q)
split key at (t ∷ ts) p q = go (same_key key t.key) refl (split key (at + size_of t) ts p)
  where
    go : (b : Bool) → same_key key t.key ≡ b → (locate_in key (at + size_of t) ts ≡ Some p → Split key (at + size_of t) ts p.start p.key_end p.end)
        → Split key at (t ∷ ts) p.start p.key_end p.end
    go true e ih =
        let r : record { start = at; key_end = at + 8 + length t.key; end = at + size_of t } ≡ p = same_Some _ _ (rw e at q) in
        record {
          front = [];
          item = t;
          back = ts;
          list = refl;
          start = omega (arith, ap (λ x. x.start) r);
          key-end = omega (arith, ap (λ x. x.start) r, ap (λ x. x.key_end) r);
          end = omega (arith, ap (λ x. x.start) r, ap (λ x. x.end) r);
          got = rw e;
          put = λ value. rw e;
        }
    go false e ih =
        let x = ih (rw e at q) in
        record {
          front = t ∷ x.front;
          item = x.item;
          back = x.back;
          list = ap (λ l. t ∷ l) x.list;
          start = rw (length-append, length-item) (omega (arith, x.start));
          key-end = x.key-end;
          end = x.end;
          got = rw e x.got;
          put = λ value. rw e (ap (λ l. t ∷ l) (x.put value));
        }

-- no match
pub record Absent (key : List ℕ) (ts : List Item) : Type 0 where
  pub got : get_item key ts ≡ None
  pub put : (value : List ℕ) → set_item key value ts ≡ ts ++ (new_item key value ∷ [])

pub absent : (key : List ℕ) (at : ℕ) (ts : List Item) → locate_in key at ts ≡ None → Absent key ts
unfolding locate_in get_item set_item
absent key at [] q = record { got = refl; put = λ value. refl }
absent key at (t ∷ ts) q = go (same_key key t.key) refl (absent key (at + size_of t) ts)
  where
    go : (b : Bool) → same_key key t.key ≡ b → (locate_in key (at + size_of t) ts ≡ None → Absent key ts) → Absent key (t ∷ ts)
    go true e ih = absurd (none-some _ (sym (rw e at q)))
    go false e ih =
        let x = ih (rw e at q) in
        record { got = rw e x.got; put = λ value. rw e (ap (λ l. t ∷ l) (x.put value)) }

-- the bytes of the area around the match
module _ {key : List ℕ} {ts : List Item} {a k e : ℕ} (x : Split key 0 ts a k e) where
  pub around : area_bytes ts ≡ area_bytes x.front ++ (item_bytes x.item ++ area_bytes x.back)
  unfolding area_bytes
  around = ap area_bytes x.list ∙ area-append x.front (x.item ∷ x.back)

  pub length-around : length (area_bytes ts) ≡ length (area_bytes x.front) + size_of x.item + length (area_bytes x.back)
  length-around = ap length around ∙ rw (length-append, length-append, length-item) (omega arith)

  pub end-within : e ≤ length (area_bytes ts)
  end-within = omega (arith, length-around, x.end, x.start)

-- ---- set

module _ {key : List ℕ} {ts : List Item} {a k e : ℕ} (x : Split key 0 ts a k e) (value : List ℕ) where
  -- the new item
  abbrev pub new : Item
  new = with_value value x.item

  pub set-bytes : area_bytes (set_item key value ts) ≡ area_bytes x.front ++ (item_bytes new ++ area_bytes x.back)
  unfolding area_bytes
  set-bytes = ap area_bytes (x.put value) ∙ area-append x.front (new ∷ x.back)

  pub set-length : length (area_bytes (set_item key value ts)) ≡ k + 1 + length value + (length (area_bytes ts) - e)
  set-length = ap length set-bytes ∙ rw (length-append, length-append, length-item) (omega (arith, length-around x, x.start, x.key-end, x.end))

  pub set-count : length (set_item key value ts) ≡ length ts
  set-count = ap length (x.put value) ∙ rw length-append (omega (arith, ap length x.list ∙ length-append x.front (x.item ∷ x.back)))

module _ {key : List ℕ} {ts : List Item} (x : Absent key ts) (value : List ℕ) where
  abbrev pub last : Item
  last = new_item key value

  pub append-bytes : area_bytes (set_item key value ts) ≡ area_bytes ts ++ item_bytes last
  unfolding area_bytes
  append-bytes = ap area_bytes (x.put value) ∙ area-append ts (last ∷ []) ∙ rw append-nil

  pub append-length : length (area_bytes (set_item key value ts)) ≡ length (area_bytes ts) + 9 + length key + length value
  append-length = ap length append-bytes ∙ rw (length-append, length-item, length-upper) (omega arith)

  pub append-count : length (set_item key value ts) ≡ length ts + 1
  append-count = ap length (x.put value) ∙ rw length-append

-- the new area holds the new value
pub set_holds : (key value : List ℕ) (ts : List Item) → length value ≤ length (area_bytes (set_item key value ts))
unfolding set_item
set_holds key value [] = omega (arith, length-area (new_item key value) [])
set_holds key value (t ∷ ts) = go (same_key key t.key) refl (set_holds key value ts)
  where
    go : (b : Bool) → same_key key t.key ≡ b → length value ≤ length (area_bytes (set_item key value ts)) → length value ≤ length (area_bytes (set_item key value (t ∷ ts)))
    go true p ih = rw p (omega (arith, length-area (with_value value t) ts))
    go false p ih = rw p (omega (arith, length-area t (set_item key value ts)))

-- ---- get

-- the place that find answers holds what get answers
pub find-get : (s : List ℕ) (n : ℕ) (key : List ℕ) → Small s → is_some (parse n s) ≡ true → (repeated : Bool)
    → option_map (value_of s) (found_at (locate_in key 0 (items_in n s)) repeated) ≡ get_item key (items_in n s)
find-get s n key b w repeated = go (locate_in key 0 (items_in n s)) refl
  where
    go : (o : Option Place) → locate_in key 0 (items_in n s) ≡ o → option_map (value_of s) (found_at o repeated) ≡ get_item key (items_in n s)
    go None q = sym (absent key 0 (items_in n s) q).got
    go (Some p) q =
        let x = split key 0 (items_in n s) p q in
        let k = p.key_end in
        let f = area_bytes x.front in
        let h = (f ++ (u32le (length x.item.value) ++ (u32le x.item.flags ++ (x.item.key ++ (0 ∷ []))))) in
        let v = x.item.value in
        let r : s ≡ h ++ (v ++ area_bytes x.back) = sym (area-items n s b w) ∙ around x ∙ unfold item_bytes in simp append_assoc in
        let l : length h ≡ k + 1 = simp length-append (omega (arith, x.start, x.key-end)) in
        let m : p.end - (k + 1) ≡ length v = omega (arith, x.start, x.key-end, x.end) in
        ap Some (ap (λ (i : ℕ). take i (drop (k + 1) s)) m ∙ ap (λ (z : List ℕ). take (length v) (drop (k + 1) z)) r ∙ ap (take (length v)) (drop_at h (v ++ area_bytes x.back) (k + 1) l) ∙ take_at v (area_bytes x.back) (length v) refl)
        ∙ sym x.got
