-- The claim is not empty: the sample meets its terms, by computation, and so the theorem speaks of it.
use Prim.Native.Nat.{ℕ}
use native.Mathlib.Omega.{arith}
use mathlib.Core.Path.{◌≡◌, refl, sym, ap, ◌∙◌}
use mathlib.Core.List.{[], ◌∷◌}
use lib.ListN.{length}
use lib.IntN.{pos, negsuc}
use Rattle.lists.specs.Bytes.{all, same, starts_with, place_of}
use Rattle.replies.specs.Refusal.{no}
use Rattle.replies.specs.declared.Refusal.TheVariants.{NoFrame}
use Rattle.keys.specs.Keys.{upper, upper_all, same_key, which_of, keys, which_key, is_from, undo_key, minmax_key, is_reserved, is_key}
use Rattle.number.specs.Fields.{before, behind, field}
use Rattle.number.specs.Reading.{is_digit, digits_from, natural, is_minus, unsigned, whole, i32, u8}
use Rattle.number.specs.Trim.{is_space, trim_left, keep, trim_right, trim}
use Rattle.decimal.specs.Writing.{places, decimal, signed}
use Rattle.values.specs.Range.{format_range, parse_range, shift_range}
use Rattle.values.specs.Stored.{kind_of, shift_stored}
use Rattle.values.specs.Undo.{format_undo, parse_undo, undo_wraps, accumulated}
use Rattle.frame.specs.declared.GainMode.TheVariants.{Saturating}
use Rattle.frame.specs.Gain.{adjust}
use Rattle.frame.specs.Tail.{stands_at, start_of, tag_start}
use Rattle.utf8.specs.Utf8.{number_of, class_at, step_of, valid_from, valid}
use Rattle.utf8.specs.Utf8 as utf8
use Rattle.lossy.proofs.Lists.{small_all}
use Rattle.items.specs.Items.{item_bytes, area_bytes, head_at, head, parse, get_item, set_item, without, count_of}
use Rattle.ape.specs.Tag.{block_bytes, tag_bytes, serialize, find_footer, area_at, moved, split, file_of, replaced}
use Rattle.calls.specs.Gate.{header_at, fit, item_valid, all_valid, gate_items, passes_gate, items_of, tag_fits}
use Rattle.calls.specs.Calls.{staying, shift_item, shift_stored_gain, stored_undo, resolved, booked, least, greatest, shifted_items, levelled_items, is_peak_key, others}
use Rattle.calls.specs.Figures.{by, fives}
use Rattle.book.specs.Book.{settled}
use Rattle.layer3.specs.Header.{unpadded_size, is_valid, header_of}
use Rattle.layer3.specs.Bits.{with_bits, read_bits, write_bits}
use Rattle.layer3.specs.Fields.{fields_from, read_left, read_right, write_fields, Before}
use Rattle.layer3.specs.Walk.{walk_start, frame_at, walk, frames_in, fields_of, any_checksum}
use Rattle.sound_calls.specs.Sound.{gains_written, level_sound_plan, undo_mp3_plan}
use Rattle.sound_reversal.specs.Run.{accepts, next, run, accepted}
use Rattle.sound_reversal.specs.Demand.{Given, Restored, Claim}
use Rattle.sound_reversal.specs.Sample.{start, calls, one, unclear}
use Rattle.sound_reversal.proofs.Demand.{claim}

-- which of its calls are accepted, and how long the file is that undo gets
pub record Ran : Type 0 where
  pub levels : accepted start calls ≡ fives ∷ by (negsuc 2) (negsuc 2) Saturating ∷ []
  pub long : length (run start calls) ≡ 310

pub ran : Ran
unfolding start calls all same starts_with place_of upper upper_all same_key which_of keys which_key is_from undo_key minmax_key is_reserved is_key before behind field is_digit digits_from natural is_minus unsigned whole i32 u8 is_space trim_left keep trim_right trim places decimal signed format_range parse_range shift_range kind_of shift_stored format_undo parse_undo undo_wraps accumulated adjust stands_at start_of tag_start number_of class_at utf8.run step_of valid_from valid item_bytes area_bytes head_at head parse get_item set_item without block_bytes tag_bytes serialize find_footer area_at moved split file_of replaced header_at fit item_valid all_valid gate_items passes_gate items_of tag_fits staying shift_item shift_stored_gain stored_undo resolved booked least greatest shifted_items levelled_items count_of is_peak_key unpadded_size is_valid header_of with_bits read_bits write_bits fields_from read_left read_right write_fields walk_start frame_at walk frames_in fields_of any_checksum gains_written level_sound_plan accepts next run accepted
ran = record { levels = refl; long = refl }

some_level : ¬ (accepted start calls ≡ [])
some_level e = let z : ◌≡◌ {A = ℕ} 2 0 = ap length (sym ran.levels ∙ e) in omega arith

pub given : Given start calls 310
unfolding start calls settled count_of all same starts_with upper upper_all same_key which_of keys which_key is_from stands_at serialize find_footer moved split file_of replaced gate_items passes_gate items_of unpadded_size is_valid header_of fields_from walk_start frame_at walk frames_in fields_of Before
given = record {
  settled-file = refl;
  none-of-eight = refl;
  bytes = small_all start refl;
  clear = (omega arith, tt);
  some_level = some_level;
  long = omega (arith, ran.long);
}

pub restored : Restored start calls 310
unfolding Claim
restored = claim start calls 310 given

-- the level call is accepted, and the undo after it finds no frame
pub needed : (accepted unclear one ≡ by (pos 1) (pos 1) Saturating ∷ []) × (undo_mp3_plan (run unclear one) 1000 ≡ no NoFrame)
unfolding unclear one all same starts_with place_of upper upper_all same_key which_of keys which_key is_from undo_key minmax_key is_reserved is_key before behind field is_digit digits_from natural is_minus unsigned whole i32 u8 is_space trim_left keep trim_right trim places decimal signed format_range parse_range shift_range kind_of shift_stored format_undo parse_undo undo_wraps accumulated adjust stands_at start_of tag_start number_of class_at utf8.run step_of valid_from valid item_bytes area_bytes head_at head parse get_item set_item without block_bytes tag_bytes serialize find_footer area_at moved split file_of replaced header_at fit item_valid all_valid gate_items passes_gate items_of tag_fits staying shift_item shift_stored_gain stored_undo resolved booked least greatest shifted_items levelled_items count_of is_peak_key unpadded_size is_valid header_of with_bits read_bits write_bits fields_from read_left read_right write_fields walk_start frame_at walk frames_in fields_of any_checksum gains_written level_sound_plan undo_mp3_plan others accepts next run accepted
needed = (refl, refl)
