-- The bytes that set writes are those of the items that it makes.
use Prim.Native.Nat.{ℕ, ◌+◌, ◌-◌, ◌*◌, ◌≤◌}
use native.Mathlib.Omega.{arith}
use mathlib.Core.Path.{◌≡◌, refl, sym, ap, ◌∙◌}
use Rattle.std.specs.Prelude.{None, Some, Ok}
use mathlib.Core.List.{List, [], ◌∷◌, ◌++◌, append_assoc, append-nil}
use lib.ListN.{length, drop, length-append}
use lib.Seq.{drop_at}
use Rattle.lists.specs.Bytes.{Small}
use Rattle.lists.specs.Le.{u32le, read_u32}
use Rattle.lists.specs.Write.{part}
use Rattle.lists.proofs.Places.{part-is}
use Rattle.lists.proofs.Numbers.{read-drop}
use Rattle.items.specs.Items.{Item, item_bytes, area_bytes, as_text, items_in, set_item, with_value, new_item}
use Rattle.items.specs.Answers.{locate_of}
use Rattle.items.specs.declared.Place.{Place}
use Rattle.items.proofs.Area.{length-item, area-length, area-items, count-items, parse-fits}
use Rattle.items.proofs.Located.{located}
use Rattle.items.proofs.Places.{Split, split, around, length-around, set-bytes, set-length, set-count, Absent, absent, append-bytes, append-length, append-count}
use Rattle.items.proofs.Finding.{There, there}
use Rattle.area_edit.specs.Edits.{changed, fresh, replaced, appended}

-- what is kept of the flags of an item that stands at the front
kept-flags : (n g : ℕ) (r : List ℕ) → as_text (read_u32 (u32le n ++ (u32le g ++ r)) 4) ≡ as_text g
kept-flags n g r = omega arith

-- an item that stands in s behind f, written with another value
pub changed-item : (s f b : List ℕ) (t : Item) (value : List ℕ) (a k : ℕ) → s ≡ f ++ (item_bytes t ++ b) → a ≡ length f → k ≡ a + 8 + length t.key
    → changed s a k value ≡ item_bytes (with_value value t)
unfolding changed item_bytes
changed-item s f b t value a k e start key-end =
    let n = u32le (length t.value) in
    let g = u32le t.flags in
    let m = t.key ++ (0 ∷ []) in
    let r : s ≡ (f ++ (n ++ g)) ++ (m ++ (t.value ++ b)) = e ∙ simp append_assoc in
    let p : part (a + 8) (k + 1) s ≡ m = ap (part (a + 8) (k + 1)) r ∙ part-is (f ++ (n ++ g)) m _ (a + 8) (k + 1) (simp length-append (omega arith)) (simp length-append (omega arith)) in
    let d : drop a s ≡ n ++ (g ++ (m ++ (t.value ++ b))) = ap (drop a) e ∙ drop_at f (item_bytes t ++ b) a (sym start) ∙ simp append_assoc in
    let h : as_text (read_u32 s (a + 4)) ≡ as_text t.flags
    = ap as_text (sym (read-drop s a 4) ∙ ap (λ (l : List ℕ). read_u32 l 4) d) ∙ kept-flags (length t.value) t.flags (m ++ (t.value ++ b)) in
    rw (p, h) (simp append_assoc)

pub fresh-item : (key value : List ℕ) → fresh key value ≡ item_bytes (new_item key value)
unfolding fresh item_bytes
fresh-item key value = simp append_assoc

module _ {key : List ℕ} {ts : List Item} {a k e : ℕ} (x : Split key 0 ts a k e) (value : List ℕ) where
  -- the bytes around the old value stay
  set-replaced : replaced (area_bytes ts) a k e value ≡ area_bytes (set_item key value ts)
  unfolding replaced
  set-replaced =
      let s = area_bytes ts in
      let f = area_bytes x.front in
      let b = area_bytes x.back in
      let one : s ≡ [] ++ (f ++ (item_bytes x.item ++ b)) = around x in
      let two : s ≡ (f ++ item_bytes x.item) ++ (b ++ []) = around x ∙ simp (append_assoc, append-nil) in
      let p1 : part 0 a s ≡ f = ap (part 0 a) one ∙ part-is [] f _ 0 a refl (omega (arith, x.start)) in
      let p2 = changed-item s f b x.item value a k (around x) (omega (arith, x.start)) x.key-end in
      let p3 : part e (length s) s ≡ b =
      ap (part e (length s)) two ∙ part-is (f ++ item_bytes x.item) b [] e (length s) (rw (length-append, length-item) (omega (arith, x.start, x.end)))
      (rw (length-append, length-append, length-item) (sym (length-around x))) in
      rw (p1, p2, p3) (simp append_assoc) ∙ sym (set-bytes x value)

module _ {key : List ℕ} {ts : List Item} (x : Absent key ts) (value : List ℕ) where
  set-appended : appended (area_bytes ts) key value ≡ area_bytes (set_item key value ts)
  unfolding appended
  set-appended = ap (λ (l : List ℕ). area_bytes ts ++ l) (fresh-item key value) ∙ sym (append-bytes x value)

-- ---- what set does to an area, by where the key stands

pub record Replaces (s : List ℕ) (n : ℕ) (key value : List ℕ) (p : Place) : Type 0 where
  pub there : There s p
  pub count : n ≡ length (set_item key value (items_in n s))
  pub size : p.key_end + 1 + length value + (length s - p.end) ≡ length (area_bytes (set_item key value (items_in n s)))
  pub bytes : Small s → replaced s p.start p.key_end p.end value ≡ area_bytes (set_item key value (items_in n s))

pub record Appends (s : List ℕ) (n : ℕ) (key value : List ℕ) : Type 0 where
  pub few : 9 * n ≤ length s
  pub count : n + 1 ≡ length (set_item key value (items_in n s))
  pub size : length s + 9 + length key + length value ≡ length (area_bytes (set_item key value (items_in n s)))
  pub bytes : Small s → appended s key value ≡ area_bytes (set_item key value (items_in n s))

module _ (s : List ℕ) (n : ℕ) (key value : List ℕ) where
  pub replaces : (p : Place) → Ok (Some p) ≡ locate_of s n key → Replaces s n key value p
  replaces p q =
      let l = located s n key (Some p) q in
      let x = split key 0 (items_in n s) p l.is in
      let y = area-length n s l.some in
      record {
        there = there s n key p q;
        count = sym (set-count x value ∙ count-items n s l.some);
        size = omega (arith, set-length x value);
        bytes = λ b. ap (λ (r : List ℕ). replaced r p.start p.key_end p.end value) (sym (area-items n s b l.some)) ∙ set-replaced x value;
      }

  pub appends : Ok None ≡ locate_of s n key → Appends s n key value
  appends q =
      let l = located s n key None q in
      let x = absent key 0 (items_in n s) l.is in
      let y = area-length n s l.some in
      record {
        few = parse-fits n s l.some;
        count = sym (append-count x value ∙ ap (λ (i : ℕ). i + 1) (count-items n s l.some));
        size = omega (arith, append-length x value);
        bytes = λ b. ap (λ (r : List ℕ). appended r key value) (sym (area-items n s b l.some)) ∙ set-appended x value;
      }
