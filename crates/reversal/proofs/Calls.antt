-- On the file of a sound book each call answers by the table, and an accepted one gives the file of the changed book.
use Prim.Native.Nat.{ℕ, ◌+◌, ◌≤◌}
use native.Mathlib.Omega.{arith}
use mathlib.Core.Path.{◌≡◌, refl, sym, ap, ◌∙◌}
use mathlib.Core.Bool.{Bool, true, false}
use Rattle.std.specs.Prelude.{Option, None, Some, option_map}
use mathlib.Core.List.{List, [], ◌∷◌, ◌++◌}
use lib.ListN.{length, length-append}
use lib.Dec.{leb}
use borrow.Author.Tests.{leb-true, le-leb, le-ltb}
use Rattle.lists.specs.Bytes.{all}
use Rattle.lists.specs.Choice.{found}
use Rattle.replies.specs.Limits.{file_limit, count_limit, area_limit}
use Rattle.replies.specs.Refusal.{Test, need, refusal_of, yes, planned}
use Rattle.replies.specs.declared.Refusal.TheVariants.{
  FileTooLong,
  StepOutOfRange,
  BadKey,
  NotUtf8,
  NoRoom,
  TagTooLarge,
  NoLeftGains,
  NotEditable,
  FlagDiffers,
  UndoOutOfRange,
  SecondUndo,
}
use Rattle.replies.proofs.Order.{AllHold, all_held, passed, done}
use Rattle.utf8.specs.Utf8.{valid}
use Rattle.keys.specs.Keys.{upper_all, same_key, is_mp3gain_key, undo_key, minmax_key, is_key, printable}
use Rattle.keys.proofs.Keys.{same-caseless, from-caseless, not-undo, printable-whole, printable-upper, key-printable}
use Rattle.items.specs.Items.{Item, item_bytes, area_bytes, set_item, without, remove_item, count_of}
use Rattle.items.proofs.Area.{length-item}
use Rattle.items.proofs.ItemLaws.{count_kept, count-outside, get_set_same, get_set_other, get-without, set-outside, without-without, count-without, area-without, sane-without, sane-set}
use Rattle.ape.specs.Tag.{tag_bytes, serialize, file_of}
use Rattle.ape.specs.Answers.{lent_fits, room_for, has_room}
use Rattle.calls.specs.Gate.{tag_fits}
use Rattle.calls.specs.Calls.{Level, Levelled, adjusted, stored_undo, undo_once, agrees, booked, numbers_fit, levelled_items, peaks_kept, is_there, steps_fit, others, undone_left, undone_right, set_plan, remove_plan, level_plan, undo_plan}
use Rattle.calls.proofs.Lists.{both, and-of}
use Rattle.book.proofs.Sound.{Good, Sound}
use Rattle.ape.proofs.Files.{length-block}
use Rattle.book.proofs.Reading.{law-passes, law-items, law-replaced}
use Rattle.calls.proofs.Texts.{plain-valid}
use Rattle.calls.proofs.Items.{not-by-undo, valid-without, valid-set, key-facts, level-sane, level-valid}
use Rattle.reversal.specs.Run.{Edit, set, remove, key_of, edit_items, edit_plan, on_left, on_right}
use Rattle.reversal.proofs.Levels.{Undo, read_undo, undo_in, booked_by, booked-is, undo-back, undone_by}

-- ---- tests as numbers

room-both : (room : ℕ) (w : List ℕ) → has_room room (length w) ≡ true → (length w ≤ room) × (length w ≤ file_limit)
room-both room w e =
    let (p, q) = both (leb (length w) room) (leb (length w) file_limit) e in
    (leb-true (length w) room p, leb-true (length w) file_limit q)

room-of : (room : ℕ) (w : List ℕ) → length w ≤ room → length w ≤ file_limit → has_room room (length w) ≡ true
room-of room w p q = and-of (le-leb (length w) room p) (le-leb (length w) file_limit q)

tag-both : (ts : List Item) → tag_fits ts ≡ true → (length ts ≤ count_limit) × (length (area_bytes ts) ≤ area_limit)
unfolding tag_fits
tag-both ts e =
    let (p, q) = both (leb (length ts) count_limit) (leb (length (area_bytes ts)) area_limit) e in
    (leb-true (length ts) count_limit p, leb-true (length (area_bytes ts)) area_limit q)

tag_of : (ts : List Item) → length ts ≤ count_limit → length (area_bytes ts) ≤ area_limit → tag_fits ts ≡ true
unfolding tag_fits
tag_of ts p q = and-of (le-leb (length ts) count_limit p) (le-leb (length (area_bytes ts)) area_limit q)

-- ---- sizes

length-tag : (ts : List Item) → length (tag_bytes ts) ≡ length (area_bytes ts) + 64
unfolding tag_bytes
length-tag ts = simp (length-append, length-block) (omega arith)

serialize-le : (as' bs : List Item) → length (area_bytes as') ≤ length (area_bytes bs) → length (serialize as') ≤ length (serialize bs)
unfolding serialize area_bytes
serialize-le [] bs h = omega arith
serialize-le (a ∷ as') [] h = absurd (omega (arith, length-append (item_bytes a) (area_bytes as'), length-item a))
serialize-le (a ∷ as') (b ∷ bs) h = omega (arith, length-tag (a ∷ as'), length-tag (b ∷ bs))

-- fewer item bytes, no longer file
file-le : (front : List ℕ) (as' bs : List Item) (back : List ℕ) → length (area_bytes as') ≤ length (area_bytes bs)
    → length (file_of front as' back) ≤ length (file_of front bs back)
unfolding file_of
file-le front as' bs back h = simp length-append (omega (arith, serialize-le as' bs h))

-- ---- a sound book with other items

pub with_items : {front back : List ℕ} {ts : List Item} → Sound front ts back → (new : List Item) → Good new → Sound front new back
with_items s new g = record { behind = s.behind; no-footer = s.no-footer; no-id3 = s.no-id3; good = g }

good-without : (p : List ℕ → Bool) (ts : List Item) → Good ts → Good (without p ts)
good-without p ts g = record {
  sane = sane-without p ts g.sane;
  valid = valid-without p ts g.valid;
  few = omega (arith, count-without p ts, g.few);
  small = omega (arith, area-without p ts, g.small);
}

pub sound-without : (front back : List ℕ) (ts : List Item) → Sound front ts back → (p : List ℕ → Bool) → Sound front (without p ts) back
sound-without front back ts s p = with_items s (without p ts) (good-without p ts s.good)

-- ---- edits

abbrev pub room_of : Edit → ℕ
room_of (set key value room) = room
room_of (remove key room) = room

abbrev pub ValueOk : Edit → Type 0
ValueOk (set key value room) = valid value ≡ true
ValueOk (remove key room) = Unit {0}

-- what an accepted edit says
pub record EditPasses (front : List ℕ) (ts : List Item) (back : List ℕ) (e : Edit) : Type 0 where
  pub input : length (file_of front ts back) ≤ file_limit
  pub key : is_key (key_of e) ≡ true
  pub value : ValueOk e
  pub few : length (edit_items e ts) ≤ count_limit
  pub small : length (area_bytes (edit_items e ts)) ≤ area_limit
  pub room : length (file_of front (edit_items e ts) back) ≤ room_of e
  pub size : length (file_of front (edit_items e ts) back) ≤ file_limit

-- an edit's tests on a book's file
abbrev book_tests : List ℕ → List Item → List ℕ → Edit → List Test
book_tests front ts back (set key value room) =
    lent_fits (file_of front ts back) ∷ need BadKey (is_key key) ∷ need NotUtf8 (valid value) ∷ need NotEditable true
    ∷ need TagTooLarge (tag_fits (set_item key value ts)) ∷ room_for room (file_of front (set_item key value ts) back) ∷ []
book_tests front ts back (remove key room) =
    lent_fits (file_of front ts back) ∷ need BadKey (is_key key) ∷ need NotEditable true
    ∷ need TagTooLarge (tag_fits (remove_item key ts)) ∷ room_for room (file_of front (remove_item key ts) back) ∷ []

module _ (front back : List ℕ) (ts : List Item) (s : Sound front ts back) where
  edit-is : (e : Edit) → edit_plan (file_of front ts back) e ≡ planned (refusal_of (book_tests front ts back e)) (file_of front (edit_items e ts) back)
  unfolding edit_plan set_plan remove_plan
  edit-is (set key value room) = rw (law-passes front ts back s, law-items front ts back s, law-replaced front ts back s (set_item key value ts))
  edit-is (remove key room) = rw (law-passes front ts back s, law-items front ts back s, law-replaced front ts back s (remove_item key ts))

  pub edit-passes : (e : Edit) (w : List ℕ) → edit_plan (file_of front ts back) e ≡ yes w → EditPasses front ts back e
  edit-passes (set key value room) w r =
      let tests = book_tests front ts back (set key value room) in
      let (n, _) = done (refusal_of tests) (file_of front (set_item key value ts) back) w (sym (edit-is (set key value room)) ∙ r) in
      let (g, h) = tag-both (set_item key value ts) (passed tests n TagTooLarge _ refl) in
      let (i, j) = room-both room (file_of front (set_item key value ts) back) (passed tests n NoRoom _ refl) in
      record {
        input = leb-true _ file_limit (passed tests n FileTooLong _ refl);
        key = passed tests n BadKey _ refl;
        value = passed tests n NotUtf8 _ refl;
        few = g;
        small = h;
        room = i;
        size = j;
      }
  edit-passes (remove key room) w r =
      let tests = book_tests front ts back (remove key room) in
      let (n, _) = done (refusal_of tests) (file_of front (remove_item key ts) back) w (sym (edit-is (remove key room)) ∙ r) in
      let (g, h) = tag-both (remove_item key ts) (passed tests n TagTooLarge _ refl) in
      let (i, j) = room-both room (file_of front (remove_item key ts) back) (passed tests n NoRoom _ refl) in
      record {
        input = leb-true _ file_limit (passed tests n FileTooLong _ refl);
        key = passed tests n BadKey _ refl;
        value = tt;
        few = g;
        small = h;
        room = i;
        size = j;
      }

  edit-held : (e : Edit) → EditPasses front ts back e → AllHold (book_tests front ts back e)
  edit-held (set key value room) p =
      (le-leb _ file_limit p.input, (p.key, (p.value, (refl, (tag_of (set_item key value ts) p.few p.small, (room-of room (file_of front (set_item key value ts) back) p.room p.size, tt))))))
  edit-held (remove key room) p =
      (le-leb _ file_limit p.input, (p.key, (refl, (tag_of (remove_item key ts) p.few p.small, (room-of room (file_of front (remove_item key ts) back) p.room p.size, tt)))))

  pub edit-accepted : (e : Edit) → EditPasses front ts back e → edit_plan (file_of front ts back) e ≡ yes (file_of front (edit_items e ts) back)
  edit-accepted e p = edit-is e ∙ rw (all_held (book_tests front ts back e) (edit-held e p))

  pub edit-sound : (e : Edit) → EditPasses front ts back e → Sound front (edit_items e ts) back
  edit-sound (set key value room) p =
      let a : all printable (upper_all key) ≡ true = printable-upper key (key-printable key p.key) in
      with_items s (set_item key value ts) (record {
        sane = sane-set key value ts (printable-whole (upper_all key) a) s.good.sane;
        valid = valid-set key value ts (plain-valid (upper_all key) a) p.value s.good.valid;
        few = p.few;
        small = p.small;
      })
  edit-sound (remove key room) p = sound-without front back ts s (same_key key)

-- an edit that names none of the eight keys
pub edit-others : (e : Edit) → is_mp3gain_key (key_of e) ≡ false → (ts : List Item) → others (edit_items e ts) ≡ edit_items e (others ts)
unfolding others
edit-others (set key value room) n ts = set-outside is_mp3gain_key (from-caseless 0) key value ts n
edit-others (remove key room) n ts = without-without is_mp3gain_key (same_key key) ts

pub edit-stored : (e : Edit) → is_mp3gain_key (key_of e) ≡ false → (ts : List Item) → undo_in (edit_items e ts) ≡ undo_in ts
unfolding undo_in stored_undo
edit-stored (set key value room) n ts = ap (option_map read_undo) (get_set_other undo_key key value ts (not-by-undo key n))
edit-stored (remove key room) n ts = ap (option_map read_undo) (get-without (same_key key) (same-caseless key) undo_key ts (not-undo key n))

-- nor does it add an undo item
pub edit-once : (e : Edit) → is_mp3gain_key (key_of e) ≡ false → (ts : List Item) → count_of (same_key undo_key) ts ≤ 1 → count_of (same_key undo_key) (edit_items e ts) ≤ 1
edit-once (set key value room) n ts h = rw (count-outside (same_key undo_key) (same-caseless undo_key) key value (not-by-undo key n) ts) h
edit-once (remove key room) n ts h = omega (arith, count_kept (same_key undo_key) (same_key key) ts)

others-count : (ts : List Item) → length (others ts) ≤ length ts
unfolding others
others-count ts = count-without is_mp3gain_key ts

others-area : (ts : List Item) → length (area_bytes (others ts)) ≤ length (area_bytes ts)
unfolding others
others-area ts = area-without is_mp3gain_key ts

others-file : (front : List ℕ) (ts : List Item) (back : List ℕ) → length (file_of front (others ts) back) ≤ length (file_of front ts back)
others-file front ts back = file-le front (others ts) ts back (others-area ts)

-- the same edit in the book without the eight keys
pub edit-fewer : (front back : List ℕ) (ts : List Item) (e : Edit) → is_mp3gain_key (key_of e) ≡ false → EditPasses front ts back e → EditPasses front (others ts) back e
edit-fewer front back ts e n p =
    let q : edit_items e (others ts) ≡ others (edit_items e ts) = sym (edit-others e n ts) in
    let new : List Item = edit_items e ts in
    record {
      input = omega (arith, others-file front ts back, p.input);
      key = p.key;
      value = p.value;
      few = rw q (omega (arith, others-count new, p.few));
      small = rw q (omega (arith, others-area new, p.small));
      room = rw q (omega (arith, others-file front new back, p.room));
      size = rw q (omega (arith, others-file front new back, p.size));
    }

-- ---- level

-- what level books is read back
pub level-stored : (l : Level) (ts : List Item) (gs : List ℕ) → numbers_fit (booked l ts) ≡ true → undo_in (levelled_items l ts gs) ≡ Some (booked_by (undo_in ts) l)
unfolding undo_in stored_undo levelled_items booked_by
level-stored l ts gs n =
    rw (get_set_other undo_key minmax_key _ _ key-facts.0, get_set_same) (ap Some (undo-back (booked l ts) l.mode n ∙ rw (booked-is l ts)))

-- what an accepted level call says; new: its items
pub record LevelPasses (front : List ℕ) (ts new : List Item) (back left : List ℕ) (l : Level) : Type 0 where
  pub some_left : is_there left ≡ true
  pub agreed : found (stored_undo ts) true (agrees l.mode) ≡ true
  pub numbers : numbers_fit (booked l ts) ≡ true
  pub few : length new ≤ count_limit
  pub small : length (area_bytes new) ≤ area_limit
  pub size : length (file_of front new back) ≤ file_limit

-- all gains that a level call leaves
abbrev pub gains_to : Level → List ℕ → List ℕ → List ℕ
gains_to l left right = adjusted l.mode l.left left ++ adjusted l.mode l.right right

-- a level call's tests on a book's file
abbrev level_tests : List ℕ → List Item → List ℕ → List ℕ → Level → List Item → ℕ → List Test
level_tests front ts back left l new room =
    lent_fits (file_of front ts back) ∷ need StepOutOfRange (steps_fit l) ∷ need NoLeftGains (is_there left) ∷ need NotEditable true
    ∷ need SecondUndo (undo_once ts) ∷ need FlagDiffers (found (stored_undo ts) true (agrees l.mode)) ∷ need UndoOutOfRange (numbers_fit (booked l ts))
    ∷ need TagTooLarge (tag_fits new) ∷ room_for room (file_of front new back) ∷ []

module _ (front back : List ℕ) (ts : List Item) (s : Sound front ts back) (left right : List ℕ) where
  module _ (l : Level) (room : ℕ) where
    new : List Item
    new = levelled_items l ts (gains_to l left right)

    levelled : Levelled
    levelled = record {
      out = file_of front new back;
      left = adjusted l.mode l.left left;
      right = adjusted l.mode l.right right;
      peaks = peaks_kept l.left l.right ts;
    }

    level-is : level_plan (file_of front ts back) left right l room ≡ planned (refusal_of (level_tests front ts back left l new room)) levelled
    unfolding level_plan new levelled
    level-is = rw (law-passes front ts back s, law-items front ts back s, law-replaced front ts back s (levelled_items l ts (gains_to l left right)))

    pub level-passes : (o : Levelled) → level_plan (file_of front ts back) left right l room ≡ yes o
        → LevelPasses front ts (levelled_items l ts (gains_to l left right)) back left l
    unfolding new levelled
    level-passes o r =
        let tests = level_tests front ts back left l (levelled_items l ts (gains_to l left right)) room in
        let (n, _) = done (refusal_of tests) levelled o (sym level-is ∙ r) in
        let (i, j) = tag-both (levelled_items l ts (gains_to l left right)) (passed tests n TagTooLarge _ refl) in
        record {
          some_left = passed tests n NoLeftGains _ refl;
          agreed = passed tests n FlagDiffers _ refl;
          numbers = passed tests n UndoOutOfRange _ refl;
          few = i;
          small = j;
          size = (room-both room (file_of front (levelled_items l ts (gains_to l left right)) back) (passed tests n NoRoom _ refl)).1;
        }

    pub level-gives : (o : Levelled) → level_plan (file_of front ts back) left right l room ≡ yes o → o ≡ record {
      out = file_of front (levelled_items l ts (gains_to l left right)) back;
      left = adjusted l.mode l.left left;
      right = adjusted l.mode l.right right;
      peaks = peaks_kept l.left l.right ts;
    }
    unfolding new levelled
    level-gives o r = sym (done (refusal_of (level_tests front ts back left l new room)) levelled o (sym level-is ∙ r)).1

    pub level-sound : LevelPasses front ts (levelled_items l ts (gains_to l left right)) back left l → Sound front (levelled_items l ts (gains_to l left right)) back
    level-sound p =
        let gs = gains_to l left right in
        with_items s (levelled_items l ts gs) (record {
          sane = level-sane l ts gs s.good.sane;
          valid = level-valid l ts gs s.good.valid;
          few = p.few;
          small = p.small;
        })

  -- ---- undo

  abbrev undone_text : List ℕ → Levelled
  undone_text text = record { out = file_of front (others ts) back; left = undone_left text left; right = undone_right text right; peaks = 0 }

  undo-text : (room : ℕ) (text : List ℕ) → count_of (same_key undo_key) ts ≤ 1 → length (file_of front ts back) ≤ file_limit → is_there left ≡ true → stored_undo ts ≡ Some text
      → length (file_of front ts back) ≤ room → undo_plan (file_of front ts back) left right room ≡ yes (undone_text text)
  unfolding undo_plan
  undo-text room text once i n q h =
      let f : length (file_of front (others ts) back) ≤ length (file_of front ts back) = others-file front ts back in
      rw (
        law-passes front ts back s,
        law-items front ts back s,
        law-replaced front ts back s (others ts),
        q,
        le-leb _ file_limit i,
        n,
        le-ltb 1 (count_of (same_key undo_key) ts) once,
        room-of room (file_of front (others ts) back) (omega arith) (omega arith),
      )

  text_of : (u : Undo) → undo_in ts ≡ Some u → (text : List ℕ) × (stored_undo ts ≡ Some text) × (read_undo text ≡ u)
  unfolding undo_in
  text_of u e = go (stored_undo ts) refl e
    where
      go : (t : Option (List ℕ)) → stored_undo ts ≡ t → option_map read_undo t ≡ Some u → (text : List ℕ) × (stored_undo ts ≡ Some text) × (read_undo text ≡ u)
      go None q e = absurd (let z : ◌≡◌ {A = ℕ} 0 1 = cc in omega arith)
      go (Some text) q e = (text, q, cc)

  -- what an undo gives
  pub record Undone (room : ℕ) (u : Undo) : Type 0 where
    pub result : Levelled
    pub accepted : undo_plan (file_of front ts back) left right room ≡ yes result
    pub out-is : result.out ≡ file_of front (others ts) back
    pub left_is : result.left ≡ undone_by on_left u left
    pub right_is : result.right ≡ undone_by on_right u right

  pub undo-gives : (room : ℕ) (u : Undo) → count_of (same_key undo_key) ts ≤ 1 → length (file_of front ts back) ≤ file_limit → is_there left ≡ true → undo_in ts ≡ Some u
      → length (file_of front ts back) ≤ room → Undone room u
  unfolding undone_by read_undo
  undo-gives room u once i n e h =
      let (text, q, r) = text_of u e in
      record {
        result = undone_text text;
        accepted = undo-text room text once i n q h;
        out-is = refl;
        left_is = ap (λ x. undone_by on_left x left) r;
        right_is = ap (λ x. undone_by on_right x right) r;
      }
