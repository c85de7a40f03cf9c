-- Demand 3 is not empty: the sample meets its terms, by computation, and so the theorem speaks of it.
use Prim.Native.Nat.{ℕ}
use native.Mathlib.Omega.{arith}
use mathlib.Core.Path.{◌≡◌, refl, sym, ap, ◌∙◌}
use mathlib.Core.List.{[], ◌∷◌}
use lib.ListN.{length}
use Rattle.lists.specs.Bytes.{ascii, all, same, starts_with, place_of, Small}
use Rattle.keys.specs.Keys.{upper, upper_all, same_key, which_of, keys, which_key, is_from, undo_key, minmax_key, is_reserved, is_key}
use Rattle.number.specs.Fields.{before, behind, field}
use Rattle.number.specs.Reading.{is_digit, digits_from, natural, is_minus, unsigned, whole, i32, u8}
use Rattle.number.specs.Trim.{is_space, trim_left, keep, trim_right, trim}
use Rattle.decimal.specs.Writing.{places, decimal, signed}
use Rattle.values.specs.Range.{format_range, parse_range, shift_range}
use Rattle.values.specs.Stored.{kind_of, shift_stored}
use Rattle.values.specs.Undo.{format_undo, parse_undo, undo_wraps, accumulated}
use Rattle.frame.specs.Gain.{adjust}
use Rattle.frame.specs.Tail.{stands_at, start_of, tag_start}
use Rattle.utf8.specs.Utf8.{number_of, class_at, step_of, valid_from, valid}
use Rattle.utf8.specs.Utf8 as utf8
use Rattle.lossy.proofs.Lists.{small_all}
use Rattle.items.specs.Items.{item_bytes, area_bytes, head_at, head, parse, get_item, set_item, without, count_of}
use Rattle.ape.specs.Tag.{block_bytes, tag_bytes, serialize, find_footer, area_at, moved, split, file_of, replaced}
use Rattle.calls.specs.Gate.{header_at, fit, item_valid, all_valid, gate_items, passes_gate, items_of, tag_fits}
use Rattle.calls.specs.Calls.{set_plan, remove_plan, staying, shift_item, shift_stored_gain, stored_undo, booked, least, greatest, shifted_items, levelled_items, is_peak_key, level_plan}
use Rattle.calls.specs.Figures.{flagged, item, fives}
use Rattle.book.specs.Book.{settled, book_of, book_file}
use Rattle.reversal.specs.Run.{set, remove, on_left, on_right, gains_on, edit_plan, feed, fed, book_after, outcome, accepts, next, run, accepted_levels, accepted_edits}
use Rattle.reversal.specs.Demand.{Apart, Given, Restored, Demand3}
use Rattle.reversal.specs.Sample.{start, apart_by, calls}
use Rattle.reversal.proofs.Demand.{demand3}

-- which of its calls are accepted, how long the file is that undo gets, and the file that it gives
pub record Ran : Type 0 where
  pub levels : accepted_levels start calls ≡ fives ∷ apart_by ∷ []
  pub edits : accepted_edits start calls ≡ set (ascii "Title") (ascii "x") 100 ∷ set (ascii "NOTE") (ascii "z") 1000 ∷ remove (ascii "title") 1000 ∷ []
  pub long : length (run start calls).file ≡ 159
  -- the picture and its flags are in the book's file, which the undo gives
  pub book : book_file (book_after start calls)
      ≡ 1 ∷ 2 ∷ 3 ∷ serialize (flagged 3 (ascii "Cover") (0xFF ∷ 0xD8 ∷ []) ∷ item (ascii "NOTE") (ascii "z") ∷ [])

pub ran : Ran
unfolding start calls all same starts_with place_of upper upper_all same_key which_of keys which_key is_from undo_key minmax_key is_reserved is_key before behind field is_digit digits_from natural is_minus unsigned whole i32 u8 is_space trim_left keep trim_right trim places decimal signed format_range parse_range shift_range kind_of shift_stored format_undo parse_undo undo_wraps accumulated adjust stands_at start_of tag_start number_of class_at utf8.run step_of valid_from valid item_bytes area_bytes head_at head parse get_item set_item without block_bytes tag_bytes serialize find_footer area_at moved split file_of replaced header_at fit item_valid all_valid gate_items passes_gate items_of tag_fits set_plan remove_plan staying shift_item shift_stored_gain stored_undo booked least greatest shifted_items levelled_items count_of is_peak_key level_plan edit_plan outcome accepts next run accepted_levels accepted_edits book_of book_file feed fed book_after
ran = record { levels = refl; edits = refl; long = refl; book = refl }

-- two level calls are accepted
some_level : ¬ (accepted_levels start calls ≡ [])
some_level e = let z : ◌≡◌ {A = ℕ} 2 0 = ap length (sym ran.levels ∙ e) in omega arith

pub given : Given start calls 159
unfolding start calls settled count_of Apart all same starts_with place_of upper upper_all same_key which_of keys which_key is_from stands_at start_of tag_start number_of class_at utf8.run step_of valid_from valid item_bytes area_bytes head_at head parse block_bytes tag_bytes serialize find_footer area_at moved split file_of replaced header_at fit item_valid all_valid gate_items passes_gate items_of
given = record {
  settled-file = refl;
  none-of-eight = refl;
  bytes = λ side. elim side as (λ one. Small (gains_on one start)) [ on_left ↦ small_all (10 ∷ 0 ∷ 252 ∷ []) refl | on_right ↦ small_all (7 ∷ []) refl ];
  apart = (refl, (refl, (refl, (refl, tt))));
  some_level = some_level;
  long = omega (arith, ran.long);
}

pub restored : Restored start calls 159
unfolding Demand3
restored = demand3 start calls 159 given
