-- The bench figures marked P, together, and the small examples of the table of replies: by computation.
use mathlib.Core.Path.{refl}
use Rattle.lists.specs.Bytes.{all, same, starts_with, place_of}
use Rattle.keys.specs.Keys.{upper, upper_all, same_key, which_of, keys, which_key, is_from, undo_key, minmax_key, is_reserved, is_key}
use Rattle.number.specs.Fields.{before, behind, field}
use Rattle.number.specs.Reading.{is_digit, digits_from, natural, is_minus, unsigned, whole, i32, u8}
use Rattle.number.specs.Trim.{is_space, trim_left, keep, trim_right, trim}
use Rattle.decimal.specs.Writing.{places, decimal, signed}
use Rattle.decibels.specs.Gain.{remaining, nearest, fraction, millionths, parse_gain, format_gain, shift_gain}
use Rattle.peaks.specs.Peak.{reaches, largest, new_count, parse_peak, format_peak, shift_peak}
use Rattle.values.specs.Range.{format_range, parse_range, shift_range, leaves, wraps_out}
use Rattle.values.specs.Stored.{kind_of, range_wraps_out, shift_stored}
use Rattle.values.specs.Undo.{format_undo, parse_undo, undo_wraps, accumulated}
use Rattle.frame.specs.Gain.{adjust}
use Rattle.frame.specs.Tail.{stands_at, start_of, tag_start}
use Rattle.utf8.specs.Utf8.{number_of, class_at, run, step_of, valid_from, valid}
use Rattle.lossy.specs.Lossy.{lossy_from, lossy}
use Rattle.slip.specs.Slip.{step_text, step_line, mode_line, lines_form, slip_form}
use Rattle.items.specs.Items.{item_bytes, area_bytes, head_at, head, parse, get_item, set_item, without, count_of}
use Rattle.ape.specs.Tag.{block_bytes, tag_bytes, serialize, find_footer, area_at, read_value, read_items, read_tag, moved, split, file_of, replaced}
use Rattle.calls.specs.Gate.{header_at, fit, item_valid, all_valid, gate_items, passes_gate, items_of, tag_fits}
use Rattle.calls.specs.Calls.{set_plan, remove_plan, staying, shift_item, shift_stored_gain, stored_undo, resolved, booked, least, greatest, shifted_items, levelled_items, is_peak_key, count_items, keeps_peak, peaks_kept, level_plan, slip_plan, others, undo_plan}
use Rattle.calls.specs.Figures.{Figures, Examples}

pub figures : Figures
unfolding all same starts_with place_of upper upper_all same_key which_of keys which_key is_from undo_key minmax_key before behind field is_digit digits_from natural is_minus unsigned whole i32 u8 is_space trim_left keep trim_right trim places decimal signed remaining nearest fraction millionths parse_gain format_gain shift_gain format_range parse_range shift_range leaves wraps_out kind_of range_wraps_out shift_stored format_undo parse_undo undo_wraps accumulated adjust stands_at start_of tag_start number_of class_at run step_of lossy_from lossy valid_from valid item_bytes area_bytes head_at head parse get_item set_item without block_bytes tag_bytes serialize find_footer area_at moved split file_of replaced header_at fit item_valid all_valid gate_items passes_gate items_of tag_fits staying shift_item shift_stored_gain stored_undo resolved booked least greatest shifted_items levelled_items count_of is_peak_key level_plan slip_plan step_text step_line mode_line lines_form slip_form others undo_plan count_items keeps_peak peaks_kept
figures = record {
  undo-n = refl;
  undo-w = refl;
  right-junk = refl;
  left-junk = refl;
  n-zero = refl;
  n-high = refl;
  n-low = refl;
  w-high = refl;
  w-low = refl;
  range-text = refl;
  range-out = refl;
  range-n = refl;
  range-w = refl;
  gain-two = refl;
  gain-one = refl;
  gain-minus = refl;
  one-mark = refl;
  two-marks = refl;
  item-bytes = refl;
  header-size = refl;
  footer-size = refl;
  tag-bytes = refl;
  level-ten = refl;
  undo-ten = refl;
  level-high = refl;
  undo-high = refl;
}

pub examples : Examples
unfolding all same starts_with place_of upper upper_all same_key which_of keys which_key is_from undo_key minmax_key is_reserved is_key before behind field is_digit digits_from natural is_minus unsigned whole i32 u8 is_space trim_left keep trim_right trim places decimal signed remaining nearest fraction millionths parse_gain format_gain shift_gain reaches largest new_count parse_peak format_peak shift_peak format_range parse_range shift_range leaves wraps_out kind_of range_wraps_out shift_stored format_undo parse_undo undo_wraps accumulated adjust stands_at start_of tag_start number_of class_at run step_of lossy_from lossy valid_from valid item_bytes area_bytes head_at head parse get_item set_item without block_bytes tag_bytes serialize find_footer area_at read_value read_items read_tag moved split file_of replaced header_at fit item_valid all_valid gate_items passes_gate items_of tag_fits set_plan remove_plan staying shift_item shift_stored_gain stored_undo resolved booked least greatest shifted_items levelled_items count_of is_peak_key count_items keeps_peak peaks_kept level_plan slip_plan step_text step_line mode_line lines_form slip_form others undo_plan
examples = record {
  two = refl;
  three = refl;
  four = refl;
  five = refl;
  five-not = refl;
  six = refl;
  six-not = refl;
  six-level = refl;
  six-level-not = refl;
  seven = refl;
  eight = refl;
  eight-utf8 = refl;
  eight-binary = refl;
  eight-key = refl;
  eight-external = refl;
  eight-reserved = refl;
  eight-stray = refl;
  set-flags = refl;
  shift-flags = refl;
  peak-up = refl;
  peak-down = refl;
  peak-still = refl;
  peak-tens = refl;
  half-of-1 = refl;
  half-of-3 = refl;
  part-of-16 = refl;
  part-of-million = refl;
  peak-most = refl;
  peak-over = refl;
  peak-hundred = refl;
  peak-106 = refl;
  peak-107 = refl;
  peak-least = refl;
  peak-zero = refl;
  peak-sign = refl;
  peak-five = refl;
  peak-seven = refl;
  peak-three = refl;
  peak-bare = refl;
  peaks-moved = refl;
  one_kept = refl;
  none_kept = refl;
  read-binary = refl;
  read-reserved = refl;
  eight-header = refl;
  eight-version = refl;
  eight-size = refl;
  eight-count = refl;
  eight-bit = refl;
  headed = refl;
  unheaded = refl;
  headless-read = refl;
  headless-replaced = refl;
  eight-remove = refl;
  eight-undo = refl;
  eight-read = refl;
  removed = refl;
  removed-all = refl;
  nine = refl;
  ten = refl;
  eleven = refl;
  fourteen = refl;
  fourteen-undo = refl;
  fourteen-not = refl;
  two-first = refl;
  seven-first = refl;
  nine-first = refl;
  again = refl;
  out-again = refl;
  unequal = refl;
  unnamed-n = refl;
  unnamed-w = refl;
  unnamed-junk = refl;
  named = refl;
  thirteen = refl;
  slip-two = refl;
  slip-unnamed = refl;
  slip-stored = refl;
  slip-nine = refl;
  junk = refl;
}
