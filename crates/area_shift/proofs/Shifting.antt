-- Laws of the shift of stored values, and the loops over the items of an area that it leaves.
use Prim.Native.Nat.{ℕ, ◌+◌, ◌-◌, ◌*◌, ◌/◌, min, ◌≤◌, ◌<◌}
use native.Mathlib.Nat.{zero-add, add-zero}
use native.Mathlib.Omega.{arith}
use mathlib.Core.Path.{◌≡◌, refl, sym, ap, ◌∙◌}
use mathlib.Core.Bool.{Bool, true, false}
use Rattle.std.specs.Prelude.{Option, None, Some, option_map}
use mathlib.Core.List.{List, [], ◌∷◌, ◌++◌, map, append_assoc, append-nil}
use lib.ListN.{length, take, drop, length-append, take-append-drop}
use lib.Seq.{length-take-le}
use lib.Dec.{leb}
use lib.IntN.{ℤ}
use borrow.Author.Tests.{le-leb, lt-leb, leb-true, leb-false}
use Rattle.lists.specs.Bytes.{Small}
use Rattle.lists.specs.Choice.{found, is_some}
use Rattle.lists.specs.Write.{over, part}
use Rattle.lists.proofs.Places.{length_part}
use Rattle.lists.proofs.Wrote.{Wrote, start, from_start}
use Rattle.replies.specs.Limits.{file_limit}
use Rattle.replies.specs.Refusal.{need, no, yes}
use Rattle.replies.specs.declared.Refusal.TheVariants.{MalformedArea, StepOutOfRange, NoRoom}
use Rattle.frame.specs.declared.GainMode.{GainMode}
use Rattle.frame.specs.declared.GainMode.TheVariants.{Saturating, Wrapping}
use Rattle.decimal.specs.Writing.{text_of}
use Rattle.decimal.specs.declared.Text.{Text}
use Rattle.decimal.proofs.Texts.{text-within}
use Rattle.values.specs.Stored.{shift_stored}
use Rattle.values.proofs.Texts.{stored_short}
use Rattle.slip.specs.Slip.{is_step}
use Rattle.items.specs.Items.{Item, item_bytes, area_bytes, size_of, parse, items_in, with_value}
use Rattle.items.proofs.Area.{length-item, length-area, count-items, area-length}
use Rattle.items.proofs.Loops.{Left, begin, Turn, items-none}
use Rattle.area_edit.specs.Edits.{fits, edited, changed}
use Rattle.area_edit.proofs.Plans.{fits-yes, fits-room, fits-long}
use Rattle.area_edit.proofs.Setting.{changed-item}
use Rattle.calls.specs.Calls.{staying, shift_item, shift_stored_gain}
use Rattle.area_shift.specs.Shift.{goes, shifted_bytes, shift_plan}

-- ---- sizes

module _ (m : GainMode) (steps : ℤ) where
  -- the first item goes, or stays and is shifted
  pub shift-goes : (t : Item) (ts : List Item) → goes m steps t.key t.value ≡ true → shift_stored_gain m steps (t ∷ ts) ≡ shift_stored_gain m steps ts
  unfolding shift_stored_gain staying
  shift-goes t ts e = by m e
    where
      by : (m : GainMode) → goes m steps t.key t.value ≡ true → map (shift_item steps) (staying m steps (t ∷ ts)) ≡ map (shift_item steps) (staying m steps ts)
      by Saturating e = cc
      by Wrapping e = rw e

  pub shift-stays : (t : Item) (ts : List Item) → goes m steps t.key t.value ≡ false → shift_stored_gain m steps (t ∷ ts) ≡ shift_item steps t ∷ shift_stored_gain m steps ts
  unfolding shift_stored_gain staying
  shift-stays t ts e = by m e
    where
      by : (m : GainMode) → goes m steps t.key t.value ≡ false → map (shift_item steps) (staying m steps (t ∷ ts)) ≡ shift_item steps t ∷ map (shift_item steps) (staying m steps ts)
      by Saturating e = refl
      by Wrapping e = rw e

  pub shift_none : shift_stored_gain m steps [] ≡ []
  unfolding shift_stored_gain staying
  shift_none = by m
    where
      by : (m : GainMode) → map (shift_item steps) (staying m steps []) ≡ []
      by Saturating = refl
      by Wrapping = refl

  pub shift_count : (ts : List Item) → length (shift_stored_gain m steps ts) ≤ length ts
  shift_count [] = rw shift_none (omega arith)
  shift_count (t ∷ ts) = go (goes m steps t.key t.value) refl (shift_count ts)
    where
      go : (a : Bool) → goes m steps t.key t.value ≡ a → length (shift_stored_gain m steps ts) ≤ length ts → length (shift_stored_gain m steps (t ∷ ts)) ≤ length (t ∷ ts)
      go true e ih = rw (shift-goes t ts e) (omega arith)
      go false e ih = rw (shift-stays t ts e) (omega arith)

  -- a new text has at most 32 bytes
  shift-size : (t : Item) → size_of (shift_item steps t) ≤ size_of t + 32
  unfolding shift_item
  shift-size t = go (shift_stored t.key t.value steps) refl
    where
      go : (o : Option (List ℕ)) → shift_stored t.key t.value steps ≡ o → size_of (found o t (λ w. with_value w t)) ≤ size_of t + 32
      go None e = omega arith
      go (Some w) e = omega (arith, (stored_short t.key t.value steps w e).size)

  pub shift-bytes : (ts : List Item) → length (area_bytes (shift_stored_gain m steps ts)) ≤ length (area_bytes ts) + 32 * length ts
  shift-bytes [] = rw shift_none (omega arith)
  shift-bytes (t ∷ ts) = go (goes m steps t.key t.value) refl (shift-bytes ts)
    where
      go : (a : Bool) → goes m steps t.key t.value ≡ a → length (area_bytes (shift_stored_gain m steps ts)) ≤ length (area_bytes ts) + 32 * length ts
          → length (area_bytes (shift_stored_gain m steps (t ∷ ts))) ≤ length (area_bytes (t ∷ ts)) + 32 * length (t ∷ ts)
      go true e ih = rw (shift-goes t ts e) (omega (arith, length-area t ts))
      go false e ih = rw (shift-stays t ts e) (omega (arith, length-area t ts, length-area (shift_item steps t) (shift_stored_gain m steps ts), shift-size t))

-- a new text, and what it holds
pub record Moved (o : Option (List ℕ)) (t : Text) : Type 0 where
  pub w : List ℕ
  pub is : o ≡ Some w
  pub text : t ≡ text_of w

moved-is : (o : Option (List ℕ)) {t : Text} → Some t ≡ option_map text_of o → Moved o t
moved-is None e = absurd (let z : ◌≡◌ {A = ℕ} 0 1 = cc in omega arith)
moved-is (Some w) e = record { w = w; is = refl; text = cc }

unmoved : (o : Option (List ℕ)) → option_map text_of o ≡ None → None ≡ o
unmoved None e = refl
unmoved (Some w) e = absurd (let z : ◌≡◌ {A = ℕ} 0 1 = cc in omega arith)

-- ---- the bytes of one item, by whether it has a new text

module _ (steps : ℤ) (s : List ℕ) (a k e : ℕ) where
  pub bytes-found : shift_stored (part (a + 8) k s) (part (k + 1) e s) steps ≡ None → shifted_bytes steps s a k e ≡ part a e s
  unfolding shifted_bytes
  bytes-found q = rw q

  pub bytes-moved : (w : List ℕ) → shift_stored (part (a + 8) k s) (part (k + 1) e s) steps ≡ Some w
      → shifted_bytes steps s a k e ≡ changed s a k w
  unfolding shifted_bytes
  bytes-moved w q = rw q

  -- what the code's answer says of them
  pub stays-bytes : None ≡ option_map text_of (shift_stored (part (a + 8) k s) (part (k + 1) e s) steps) → shifted_bytes steps s a k e ≡ part a e s
  stays-bytes q = bytes-found (sym (unmoved _ (sym q)))

  module _ {x : Text} (q : Some x ≡ option_map text_of (shift_stored (part (a + 8) k s) (part (k + 1) e s) steps)) where
    pub moved-text : Moved (shift_stored (part (a + 8) k s) (part (k + 1) e s) steps) x
    moved-text = moved-is _ q

    pub moved-size : a + 8 ≤ k → k < e → e ≤ length s
        → (length (shifted_bytes steps s a k e) ≡ k + 1 - a + x.len) × (x.len ≤ 21) × (x.len ≤ length x.bytes)
    unfolding changed
    moved-size h i j =
        let m = moved-text in
        let n : x.len ≡ length m.w = ap (λ (t : Text). t.len) m.text in
        let l = length_part (a + 8) (k + 1) s (omega arith) in
        (rw (bytes-moved m.w m.is) (simp length-append (omega arith)), omega (arith, (stored_short _ _ steps m.w m.is).size), text-within x m.w m.text)

-- ---- room for an item as found

pub kept-room : (at k e n o m : ℕ) {z : ℕ} → at + 8 ≤ k → k < e → e ≤ n → z ≡ e - at → o + z ≤ m → (at ≤ e) × (e ≤ n) × (o + (e - at) ≤ m)
kept-room at k e n o m h i j q r = (omega arith, j, omega arith)

-- ---- and for one with a new text of t bytes
pub moved-room : (at k e n o m t : ℕ) {z : ℕ} → at + 8 ≤ k → k < e → e ≤ n → z ≡ k + 1 - at + t → o + z ≤ m → t ≤ 21
    → (at + 8 ≤ k) × (k < n) × (t ≤ file_limit) × (o + (k + 1 - at) + t ≤ m)
moved-room at k e n o m t h i j q r u = (h, omega arith, omega arith, omega arith)

-- ---- the bytes of a turn's item

module _ (steps : ℤ) {s : List ℕ} {at left m' a b c d : ℕ} (t : Turn s at left m' a b c d) (small : Small s) where
  -- what precedes it and what follows it
  around : s ≡ take at s ++ (item_bytes t.item ++ drop (d - at) (drop at s))
  around =
      sym (take-append-drop at s)
      ∙ ap (λ (x : List ℕ). take at s ++ x) (sym (take-append-drop (d - at) (drop at s)) ∙ ap (λ (x : List ℕ). x ++ drop (d - at) (drop at s)) (t.bytes small))

  pub item-shifted : shifted_bytes steps s at b d ≡ item_bytes (shift_item steps t.item)
  unfolding shift_item
  item-shifted = go (shift_stored t.item.key t.item.value steps) refl
    where
      stored : (o : Option (List ℕ)) → shift_stored t.item.key t.item.value steps ≡ o → shift_stored (part (at + 8) b s) (part (b + 1) d s) steps ≡ o
      stored o e = rw (← t.key-start, ← t.value-start, t.key, t.value) e

      go : (o : Option (List ℕ)) → shift_stored t.item.key t.item.value steps ≡ o → shifted_bytes steps s at b d ≡ item_bytes (shift_item steps t.item)
      go None e = bytes-found steps s at b d (stored None e) ∙ t.bytes small ∙ rw e
      go (Some w) e =
          bytes-moved steps s at b d w (stored (Some w) e)
          ∙ changed-item s (take at s) _ t.item w at b around (sym (length-take-le at s (omega (arith, t.end, t.rest.within)))) t.key-end
          ∙ rw e

module _ (m : GainMode) (steps : ℤ) where
  -- what the shift leaves of items
  abbrev left-of : List Item → List Item
  left-of ts = shift_stored_gain m steps ts

  -- ---- a turn's item goes or stays

  module _ {s : List ℕ} {at left m' a b c d : ℕ} (t : Turn s at left m' a b c d) {y : Bool} (e : y ≡ goes m steps (part a b s) (part c d s)) where
    test : (z : Bool) → y ≡ z → goes m steps t.item.key t.item.value ≡ z
    test z f = rw (← t.key, ← t.value) (sym e ∙ f)

    gone : y ≡ true → left-of (items_in left (drop at s)) ≡ left-of (items_in m' (drop d s))
    gone f = ap left-of t.list ∙ shift-goes m steps t.item (items_in m' (drop d s)) (test true f)

    kept : y ≡ false → left-of (items_in left (drop at s)) ≡ shift_item steps t.item ∷ left-of (items_in m' (drop d s))
    kept f = ap left-of t.list ∙ shift-stays m steps t.item (items_in m' (drop d s)) (test false f)

  -- nothing is left of no items
  ended : (s : List ℕ) (at left : ℕ) → left ≡ 0 → left-of (items_in left (drop at s)) ≡ []
  ended s at left z = ap (λ (i : ℕ). left-of (items_in i (drop at s))) z ∙ ap left-of (items-none (drop at s)) ∙ shift_none m steps

  -- ---- the loop that measures

  -- what is left so far has `size` bytes, and what is left of the rest is to come
  pub record Sizing (s : List ℕ) (count at left size : ℕ) : Type 0 where
    pub todo : Left s at left
    pub sized : length (area_bytes (left-of (items_in count s))) ≡ size + length (area_bytes (left-of (items_in left (drop at s))))

  pub size-begin : (s : List ℕ) (count : ℕ) → is_some (parse count s) ≡ true → (left : ℕ) → left ≡ count → Sizing s count 0 left 0
  size-begin s count e left all = rw all (record { todo = begin s count e; sized = sym (zero-add _) })

  module _ {s : List ℕ} {count at left m' size a b c d : ℕ} (x : Sizing s count at left size) (t : Turn s at left m' a b c d) {y : Bool}
      (e : y ≡ goes m steps (part a b s) (part c d s)) where
    pub size-drop : y ≡ true → Sizing s count d m' size
    size-drop f = record { todo = t.rest; sized = x.sized ∙ ap (λ (ts : List Item). size + length (area_bytes ts)) (gone t e f) }

    pub size-keep : y ≡ false → Small s → Sizing s count d m' (size + length (shifted_bytes steps s at b d))
    size-keep f sm =
        let i = shift_item steps t.item in
        let r = left-of (items_in m' (drop d s)) in
        let k : size + length (area_bytes (left-of (items_in left (drop at s)))) ≡ size + (size_of i + length (area_bytes r)) = rw (kept t e f, length-area i r) in
        record { todo = t.rest; sized = omega (arith, x.sized, k, ap length (item-shifted steps t sm), length-item i) }

  -- ---- whether it fits, by what was measured

  pub size-over : {s : List ℕ} {count at left size limit : ℕ} → Sizing s count at left size → limit < size → false ≡ leb (length (area_bytes (left-of (items_in count s)))) limit
  size-over {s} {count} {at} {left} {size} {limit} x h =
      let g : limit < length (area_bytes (left-of (items_in count s))) = omega (arith, x.sized) in
      sym (lt-leb _ _ g)

  pub size_fits : {s : List ℕ} {count at left size limit : ℕ} → Sizing s count at left size → left ≡ 0 → size ≤ limit → true ≡ leb (length (area_bytes (left-of (items_in count s)))) limit
  unfolding area_bytes
  size_fits {s} {count} {at} {left} {size} {limit} x z h =
      let e : length (area_bytes (left-of (items_in count s))) ≡ size = x.sized ∙ rw (ended s at left z) (add-zero size) in
      sym (rw e (le-leb _ _ h))

  -- there is room for a new text in every item
  pub ample : (s : List ℕ) (count limit : ℕ) → is_some (parse count s) ≡ true → length s ≤ limit → count ≤ (limit - length s) / 32
      → true ≡ leb (length (area_bytes (left-of (items_in count s)))) limit
  ample s count limit e h g =
      let k : length (area_bytes (left-of (items_in count s))) ≤ limit = omega (arith, shift-bytes m steps (items_in count s), area-length count s e, count-items count s e) in
      sym (le-leb _ _ k)

  -- ---- the loop that writes

  -- `done` are the bytes of the n items so far, and what is left of the rest is to come
  pub record Writing (s : List ℕ) (count : ℕ) (out₀ out : List ℕ) (at left n o : ℕ) : Type 0 where
    pub todo : Left s at left
    pub done : List ℕ
    pub same : area_bytes (left-of (items_in count s)) ≡ done ++ area_bytes (left-of (items_in left (drop at s)))
    pub counted : length (left-of (items_in count s)) ≡ n + length (left-of (items_in left (drop at s)))
    pub wrote : Wrote out₀ 0 done o out
    pub long : length out ≡ length out₀

  pub write-begin : (s : List ℕ) (count : ℕ) (out : List ℕ) → is_some (parse count s) ≡ true → (left : ℕ) → left ≡ count → Writing s count out out 0 left 0 0
  write-begin s count out e left all =
      rw all (record { todo = begin s count e; done = []; same = refl; counted = sym (zero-add _); wrote = start out 0 (omega arith); long = refl })

  module _ {s : List ℕ} {count : ℕ} {out₀ out : List ℕ} {at left m' n o a b c d : ℕ} (x : Writing s count out₀ out at left n o) (t : Turn s at left m' a b c d) {y : Bool}
      (e : y ≡ goes m steps (part a b s) (part c d s)) where
    pub write-drop : y ≡ true → Writing s count out₀ out d m' n o
    write-drop f =
        let q = gone t e f in
        record {
          todo = t.rest;
          done = x.done;
          same = x.same ∙ ap (λ (ts : List Item). x.done ++ area_bytes ts) q;
          counted = x.counted ∙ ap (λ (ts : List Item). n + length ts) q;
          wrote = x.wrote;
          long = x.long;
        }

    -- the item stays
    module _ (f : y ≡ false) where
      kept_same : area_bytes (left-of (items_in count s)) ≡ (x.done ++ item_bytes (shift_item steps t.item)) ++ area_bytes (left-of (items_in m' (drop d s)))
      unfolding area_bytes
      kept_same =
          x.same
          ∙ ap (λ (ts : List Item). x.done ++ area_bytes ts) (kept t e f)
          ∙ sym (append_assoc x.done (item_bytes (shift_item steps t.item)) (area_bytes (left-of (items_in m' (drop d s)))))

      kept-count : length (left-of (items_in count s)) ≡ n + 1 + length (left-of (items_in m' (drop d s)))
      kept-count = x.counted ∙ ap (λ (ts : List Item). n + length ts) (kept t e f) ∙ omega arith

      -- one more can be counted
      pub write-few : is_some (parse count s) ≡ true → n + 1 ≤ count
      write-few g = omega (arith, kept-count, shift_count m steps (items_in count s), count-items count s g)

      -- there is room for it
      pub write-room : Small s → length (area_bytes (left-of (items_in count s))) ≤ length out₀ → o + length (shifted_bytes steps s at b d) ≤ length out
      write-room sm r =
          let k = simp length-append at (ap length kept_same) in
          omega (arith, k, r, ap length (item-shifted steps t sm), x.wrote.ends, x.long)

      pub write-keep : Small s → (o' : ℕ) (out' : List ℕ) → length out' ≡ length out → Wrote out₀ 0 (x.done ++ shifted_bytes steps s at b d) o' out'
          → Writing s count out₀ out' d m' (n + 1) o'
      write-keep sm o' out' l w =
          record { todo = t.rest; done = x.done ++ item_bytes (shift_item steps t.item); same = kept_same; counted = kept-count; wrote = rw (item-shifted steps t sm) at w; long = l ∙ x.long }

  pub write-end : {s : List ℕ} {count : ℕ} {out₀ out : List ℕ} {at left n o : ℕ} (x : Writing s count out₀ out at left n o) → left ≡ 0
      → (n ≡ length (left-of (items_in count s))) × (o ≡ length (area_bytes (left-of (items_in count s)))) × (out ≡ over (area_bytes (left-of (items_in count s))) out₀)
  unfolding area_bytes
  write-end {s} {count} {out₀} {out} {at} {left} {n} {o} x z =
      let e = ended s at left z in
      let k : area_bytes (left-of (items_in count s)) ≡ x.done = x.same ∙ ap (λ (ts : List Item). x.done ++ area_bytes ts) e ∙ append-nil x.done in
      (sym (x.counted ∙ rw e (add-zero n)), x.wrote.ends ∙ rw (zero-add, k), from_start x.wrote ∙ rw k)

-- ---- refusal 5, by one limit

module _ (room limit : ℕ) (ts : List Item) (r : Bool) (l : limit ≡ min room file_limit) (e : r ≡ leb (length (area_bytes ts)) limit) where
  pub fits-no : r ≡ false → fits room ts ≡ false
  fits-no f = go (leb room file_limit) refl
    where
      long : limit < length (area_bytes ts)
      long = leb-false _ _ (sym e ∙ f)

      go : (b : Bool) → leb room file_limit ≡ b → fits room ts ≡ false
      go true q = fits-room room ts (omega (arith, long, leb-true room file_limit q))
      go false q = fits-long room ts (omega (arith, long, leb-false room file_limit q))

  short : r ≡ true → length (area_bytes ts) ≤ limit
  short f = leb-true _ _ (sym e ∙ f)

  pub room_for : r ≡ true → length (area_bytes ts) ≤ room
  room_for f = omega (arith, short f)

  pub fits_all : r ≡ true → fits room ts ≡ true
  fits_all f = fits-yes room ts (room_for f) (omega (arith, short f))

-- ---- what the call answers, by the tests that led there

module _ (m : GainMode) (steps : ℤ) (n : ℕ) (s : List ℕ) (room : ℕ) where
  pub shift-12 : is_some (parse n s) ≡ false → shift_plan m steps n s room ≡ no MalformedArea
  unfolding edited
  shift-12 a = rw a

  module _ (a : is_some (parse n s) ≡ true) where
    pub shift-2 : is_step steps ≡ false → shift_plan m steps n s room ≡ no StepOutOfRange
    unfolding edited
    shift-2 t = rw (a, t)

    pub shift-5 : is_step steps ≡ true → fits room (shift_stored_gain m steps (items_in n s)) ≡ false → shift_plan m steps n s room ≡ no NoRoom
    unfolding edited
    shift-5 t r =
        let q : edited (need StepOutOfRange (is_step steps) ∷ []) (shift_stored_gain m steps) n s room ≡ no NoRoom = rw (a, t, r) in
        q

    pub shift-yes : is_step steps ≡ true → fits room (shift_stored_gain m steps (items_in n s)) ≡ true
        → shift_plan m steps n s room ≡ yes (shift_stored_gain m steps (items_in n s))
    unfolding edited
    shift-yes t r =
        let q : edited (need StepOutOfRange (is_step steps) ∷ []) (shift_stored_gain m steps) n s room ≡ yes (shift_stored_gain m steps (items_in n s)) = rw (a, t, r) in
        q
