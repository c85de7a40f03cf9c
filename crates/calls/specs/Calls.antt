-- The calls that write a file: each is refused, or done with what it gives (document 01, "Replies", "Editing and writing", "Level and undo").
use Rattle.std.specs.Prelude.{ℕ, ◌+◌, min, max, Bool, true, false, not, ◌&&◌, ◌||◌, cond, List, [], ◌∷◌, ◌++◌, map, eqb, ltb, ℤ, pos, negsuc}
use Rattle.std.specs.Prelude.{Option, None, Some, unwrap_or}
use Rattle.std.specs.Int.Signed.{mag}
use Rattle.lists.specs.Choice.{found, is_some}
use Rattle.replies.specs.Refusal.{Test, need, refusal_of, Plan, no, planned}
use Rattle.replies.specs.declared.Refusal.TheVariants.{
  StepOutOfRange,
  BadKey,
  NotUtf8,
  TagTooLarge,
  NoLeftGains,
  NotEditable,
  FlagDiffers,
  NoUndo,
  UndoOutOfRange,
  MalformedSlip,
  SecondUndo,
}
use Rattle.frame.specs.declared.GainMode.{GainMode}
use Rattle.frame.specs.declared.GainMode.TheVariants.{Saturating, Wrapping}
use Rattle.frame.specs.Gain.{mode_of, adjust}
use Rattle.utf8.specs.Utf8.{valid}
use Rattle.keys.specs.Keys.{which_key, is_mp3gain_key, is_undone, undo_key, minmax_key, is_key}
use Rattle.values.specs.declared.UndoValues.{UndoValues}
use Rattle.values.specs.declared.Range.{Range}
use Rattle.values.specs.Undo.{format_undo, parse_undo, undo_wraps, accumulated}
use Rattle.values.specs.Range.{format_range}
use Rattle.values.specs.Stored.{is_peak, range_wraps_out, shift_stored}
use Rattle.slip.specs.declared.Wish.{Wish}
use Rattle.slip.specs.Slip.{is_step, slip_form}
use Rattle.items.specs.Items.{Item, get_item, with_value, set_item, without, remove_item, count_of, is_repeated}
use Rattle.ape.specs.Tag.{replaced}
use Rattle.ape.specs.Answers.{lent_fits, room_for}
use Rattle.calls.specs.Gate.{passes_gate, items_of, tag_fits}

-- ---- set and remove on a file

-- the file with the item set; refusals 1, 3, 4, 8, 6, 5
unfoldable pub set_plan : List ℕ → List ℕ → List ℕ → ℕ → Plan (List ℕ)
set_plan file key value room =
    let new = set_item key value (items_of file) in
    planned
    (refusal_of (
    lent_fits file ∷ need BadKey (is_key key) ∷ need NotUtf8 (valid value) ∷ need NotEditable (passes_gate file)
    ∷ need TagTooLarge (tag_fits new) ∷ room_for room (replaced file new) ∷ []))
    (replaced file new)

-- the file with every match removed; refusals 1, 3, 8, 6, 5
unfoldable pub remove_plan : List ℕ → List ℕ → ℕ → Plan (List ℕ)
remove_plan file key room =
    let new = remove_item key (items_of file) in
    planned
    (refusal_of (
    lent_fits file ∷ need BadKey (is_key key) ∷ need NotEditable (passes_gate file)
    ∷ need TagTooLarge (tag_fits new) ∷ room_for room (replaced file new) ∷ []))
    (replaced file new)

-- ---- what level takes and gives

-- two steps and a flag: W is Wrapping, N is Saturating
pub record Level : Type 0 where
  pub left : ℤ
  pub right : ℤ
  pub mode : GainMode

-- the file, the gains of either side, and how many peak items of its tag were left as found
pub record Levelled : Type 0 where
  pub out : List ℕ
  pub left : List ℕ
  pub right : List ℕ
  pub peaks : ℕ

-- every gain of a side adjusted
abbrev pub adjusted : GainMode → ℤ → List ℕ → List ℕ
adjusted m steps gs = map (adjust m steps) gs

-- ---- stored values (`shift_stored_gain`)

-- under W the ranges that leave 0..255 go
unfoldable pub staying : GainMode → ℤ → List Item → List Item
staying Saturating steps ts = ts
staying Wrapping steps [] = []
staying Wrapping steps (t ∷ ts) =
    cond (range_wraps_out t.key t.value steps) (staying Wrapping steps ts) (t ∷ staying Wrapping steps ts)

-- the new text, which counts as set, or the item as found
unfoldable pub shift_item : ℤ → Item → Item
shift_item steps t = found (shift_stored t.key t.value steps) t (λ v. with_value v t)

-- first drop, then shift
unfoldable pub shift_stored_gain : GainMode → ℤ → List Item → List Item
shift_stored_gain m steps ts = map (shift_item steps) (staying m steps ts)

-- ---- the undo item

-- the text of the first undo item
unfoldable pub stored_undo : List Item → Option (List ℕ)
stored_undo ts = get_item undo_key ts

-- refusal 14: not more than one undo item
abbrev pub undo_once : List Item → Bool
undo_once ts = not (is_repeated undo_key ts)

-- refusal 9: the flag of a stored undo text is the call's
abbrev pub agrees : GainMode → List ℕ → Bool
agrees Saturating s = not (undo_wraps s)
agrees Wrapping s = undo_wraps s

-- the mode of a slip: what it names, or else the stored flag, and W where there is no undo item
unfoldable pub resolved : Option GainMode → List Item → GainMode
resolved (Some m) ts = m
resolved None ts = found (stored_undo ts) Wrapping (λ s. mode_of (undo_wraps s))

-- the undo numbers that level stores: nothing stored reads as the empty text
unfoldable pub booked : Level → List Item → UndoValues
booked l ts = accumulated (unwrap_or (stored_undo ts) []) l.left l.right

-- refusal 11: a number lies in -32,768..32,767
abbrev pub is_undo_number : ℤ → Bool
is_undo_number z = ltb (mag z) 32768

-- W or N as the undo text has it
abbrev pub wraps : GainMode → Bool
wraps Saturating = false
wraps Wrapping = true

-- ---- the range of all gains

-- the least of the gains: 255 for none
unfoldable pub least : List ℕ → ℕ
least [] = 255
least (g ∷ gs) = min g (least gs)

-- the greatest of the gains: 0 for none
unfoldable pub greatest : List ℕ → ℕ
greatest [] = 0
greatest (g ∷ gs) = max g (greatest gs)

-- both ends of the gains
abbrev pub range_of : List ℕ → Range
range_of gs = record { least = least gs; greatest = greatest gs }

-- ---- the items that level leaves

-- the steps are equal
abbrev pub same_step : ℤ → ℤ → Bool
same_step (pos a) (pos b) = eqb a b
same_step (pos a) (negsuc b) = false
same_step (negsuc a) (pos b) = false
same_step (negsuc a) (negsuc b) = eqb a b

-- stored values shifted if the steps are equal, else UNDONE_KEYS dropped
unfoldable pub shifted_items : Level → List Item → List Item
shifted_items l ts = cond (same_step l.left l.right) (shift_stored_gain l.mode l.left ts) (without is_undone ts)

-- then the undo item is set, then the range of all gains after the call
unfoldable pub levelled_items : Level → List Item → List ℕ → List Item
levelled_items l ts gs =
    let u = booked l ts in
    set_item minmax_key (format_range (range_of gs)) (set_item undo_key (format_undo u.left u.right (wraps l.mode)) (shifted_items l ts))

-- REPLAYGAIN_TRACK_PEAK and REPLAYGAIN_ALBUM_PEAK
unfoldable pub is_peak_key : List ℕ → Bool
is_peak_key key = found (which_key key) false is_peak

-- how many items pass the test
unfoldable pub count_items : (Item → Bool) → List Item → ℕ
count_items p [] = 0
count_items p (t ∷ ts) = cond (p t) 1 0 + count_items p ts

-- a peak item that a shift by so many steps leaves as found; a shift to the same text is a shift
unfoldable pub keeps_peak : ℤ → Item → Bool
keeps_peak steps t = is_peak_key t.key && not (is_some (shift_stored t.key t.value steps))

-- how many of the old tag's items level keeps so: none where the steps differ, as it drops every peak item there.
-- The new tag does not tell, for a shifted text has the form too.
unfoldable pub peaks_kept : ℤ → ℤ → List Item → ℕ
peaks_kept left right ts = cond (same_step left right) (count_items (keeps_peak left) ts) 0

-- ---- level

-- refusal 7
abbrev pub is_there : List ℕ → Bool
is_there [] = false
is_there (g ∷ gs) = true

-- refusal 2: both steps
abbrev pub steps_fit : Level → Bool
steps_fit l = is_step l.left && is_step l.right

-- refusal 11: both numbers
abbrev pub numbers_fit : UndoValues → Bool
numbers_fit u = is_undo_number u.left && is_undo_number u.right

-- the items that level leaves in a file, from the gains that it is lent
abbrev pub new_items : List ℕ → List ℕ → List ℕ → Level → List Item
new_items file left right l = levelled_items l (items_of file) (adjusted l.mode l.left left ++ adjusted l.mode l.right right)

-- the tests before the new file is measured, refusals 1, 2, 7, 8, 14, 9, 11; `gains` says whether there are left gains
abbrev pub level_checks : List ℕ → Bool → Level → List Test
level_checks file gains l =
    let ts = items_of file in
    lent_fits file ∷ need StepOutOfRange (steps_fit l) ∷ need NoLeftGains gains ∷ need NotEditable (passes_gate file)
    ∷ need SecondUndo (undo_once ts) ∷ need FlagDiffers (found (stored_undo ts) true (λ s. agrees l.mode s)) ∷ need UndoOutOfRange (numbers_fit (booked l ts)) ∷ []

-- refusals 1, 2, 7, 8, 14, 9, 11, 6, 5
abbrev pub level_tests : List ℕ → List ℕ → List ℕ → Level → ℕ → List Test
level_tests file left right l room =
    lent_fits file ∷ need StepOutOfRange (steps_fit l) ∷ need NoLeftGains (is_there left) ∷ need NotEditable (passes_gate file)
    ∷ need SecondUndo (undo_once (items_of file))
    ∷ need FlagDiffers (found (stored_undo (items_of file)) true (agrees l.mode)) ∷ need UndoOutOfRange (numbers_fit (booked l (items_of file)))
    ∷ need TagTooLarge (tag_fits (new_items file left right l)) ∷ room_for room (replaced file (new_items file left right l)) ∷ []

-- every gain adjusted, and the file with these items
abbrev pub level_gives : List ℕ → List ℕ → List ℕ → Level → Levelled
level_gives file left right l = record {
  out = replaced file (new_items file left right l);
  left = adjusted l.mode l.left left;
  right = adjusted l.mode l.right right;
  peaks = peaks_kept l.left l.right (items_of file);
}

-- level: refused by the first test that fails, else what it gives
unfoldable pub level_plan : List ℕ → List ℕ → List ℕ → Level → ℕ → Plan Levelled
level_plan file left right l room = planned (refusal_of (level_tests file left right l room)) (level_gives file left right l)

-- what a slip asks level for, of a file
abbrev pub asked : Wish → List ℕ → Level
asked w file = record { left = w.left.0; right = w.right.0; mode = resolved w.mode (items_of file) }

-- level by a slip: refusal 13 for its form, then those of level
unfoldable pub slip_plan : List ℕ → List ℕ → List ℕ → List ℕ → ℕ → Plan Levelled
slip_plan slip file left right room = found (slip_form slip) (no MalformedSlip) (λ w. level_plan file left right (asked w file) room)

-- ---- undo

-- what is left without the eight keys
unfoldable pub others : List Item → List Item
others ts = without is_mp3gain_key ts

-- the gains of the left side adjusted by a stored undo text, under its flag
abbrev pub undone_left : List ℕ → List ℕ → List ℕ
undone_left text gs = adjusted (mode_of (undo_wraps text)) (parse_undo text).left gs

-- those of the right side likewise
abbrev pub undone_right : List ℕ → List ℕ → List ℕ
undone_right text gs = adjusted (mode_of (undo_wraps text)) (parse_undo text).right gs

-- the tests before the new file is measured, refusals 1, 7, 8, 14, 10
abbrev pub undo_checks : List ℕ → Bool → List Test
undo_checks file gains =
    let ts = items_of file in
    lent_fits file ∷ need NoLeftGains gains ∷ need NotEditable (passes_gate file) ∷ need SecondUndo (undo_once ts) ∷ need NoUndo (is_some (stored_undo ts)) ∷ []

-- refusals 1, 7, 8, 14, 10, 5
abbrev pub undo_tests : List ℕ → List ℕ → ℕ → List Test
undo_tests file left room =
    lent_fits file ∷ need NoLeftGains (is_there left) ∷ need NotEditable (passes_gate file) ∷ need SecondUndo (undo_once (items_of file))
    ∷ need NoUndo (is_some (stored_undo (items_of file)))
    ∷ room_for room (replaced file (others (items_of file))) ∷ []

-- every gain adjusted by the stored numbers, and the file without the eight keys: no peak item is left
abbrev pub undo_gives : List ℕ → List ℕ → List ℕ → Levelled
undo_gives file left right =
    let text = unwrap_or (stored_undo (items_of file)) [] in
    record { out = replaced file (others (items_of file)); left = undone_left text left; right = undone_right text right; peaks = 0 }

-- undo: refused by the first test that fails, else what it gives
unfoldable pub undo_plan : List ℕ → List ℕ → List ℕ → ℕ → Plan Levelled
undo_plan file left right room = planned (refusal_of (undo_tests file left room)) (undo_gives file left right)
