-- The claim of document 02, request 5, from demand 3: the calls on the sound go beside the calls on the lists of its gains.
use Prim.Native.Nat.{ℕ, zero, suc, ◌-◌, ◌<◌}
use native.Mathlib.Omega.{arith}
use mathlib.Core.Path.{◌≡◌, refl, sym, ap, ◌∙◌}
use mathlib.Core.Logic.{◌↔◌, ◌⊎◌}
use mathlib.Core.Bool.{Bool, true, false, true≢false}
use Rattle.std.specs.Prelude.{Option, None, Some}
use mathlib.Core.List.{List, [], ◌∷◌, ◌++◌}
use lib.ListN.{length, get_or, drop}
use lib.Seq.{ext_get_or, drop-append_seam}
use borrow.Author.Tests.{not-true}
use Rattle.lists.specs.Bytes.{Small}
use Rattle.replies.specs.Refusal.{Test, refusal_of, Plan, no, yes, planned}
use Rattle.replies.specs.declared.Refusal.{Refusal}
use Rattle.replies.specs.declared.Refusal.TheVariants.{NoFrame, HasChecksum}
use Rattle.replies.proofs.Order.{passed, done}
use Rattle.frame.specs.Gain.{mode_of}
use Rattle.keys.specs.Keys.{is_mp3gain_key}
use Rattle.values.specs.Undo.{parse_undo, undo_wraps}
use Rattle.items.specs.Items.{Item}
use Rattle.ape.specs.Tag.{serialize, split, file_of, replaced}
use Rattle.layer3.specs.Fields.{Before}
use Rattle.layer3.specs.Walk.{fields_in, with_gains}
use Rattle.layer3.proofs.Fields.{AllSmall, small-left, small-right}
use Rattle.layer3.proofs.Audio.{length-audio, audio-same}
use Rattle.calls.specs.Gate.{items_of}
use Rattle.calls.specs.Calls.{Levelled, asked, others, undone_left, undone_right, new_items, level_tests, level_gives, level_plan, undo_tests, undo_gives, undo_plan}
use Rattle.book.specs.Book.{Book, book_of, book_file}
use Rattle.book.proofs.Sound.{Sound}
use Rattle.book.proofs.Reading.{law-items, law-replaced}
use Rattle.book.proofs.Settled.{settled-sound, settled-book}
use Rattle.reversal.specs.Run as lists
use Rattle.reversal.specs.Run.{Call, State, Side, on_left, on_right, gains_on, is_yes, level_if, WrapsIf, LandsIf}
use Rattle.reversal.specs.Demand as demand
use Rattle.reversal.specs.Demand.{Apart, undone_on, Demand3}
use Rattle.reversal.proofs.Calls.{sound-without, level-passes, level-sound}
use Rattle.reversal.proofs.Demand.{demand3}
use Rattle.sound_calls.specs.Sound.{audio_of, sound_left, sound_right, frame_tests, gains_written, sound_gives, level_sound_plan, undo_mp3_plan}
use Rattle.sound_reversal.specs.Run.{Asked, call_of, sound_on, plan_of, accepts, after, next, run, accepted, Wrapped, Landed}
use Rattle.sound_reversal.specs.Demand.{Held, Given, Claim}
use Rattle.sound_reversal.proofs.Calls.{Fits, fits-adjusted, file-long, Fine, new_tag, levelled, text_in, undone, left_is, right_is, level-is, undo-is}

-- a file of the calls on the sound, and beside it what the calls on lists have: the same but for the gains in the sound
pub record Holds (front back file : List ℕ) (s : State) : Type 0 where
  pub items : List Item
  pub sound : Sound front items back
  pub bare : s.file ≡ file_of front items back
  pub full : file ≡ file_of (with_gains front s.left s.right) items back
  pub fits : Fits front s.left s.right

-- ---- frames are there

accepts-fine : (file : List ℕ) (a : Asked) → accepts file a ≡ true → Fine (audio_of file)
unfolding accepts level_sound_plan
accepts-fine file a e = go (refusal_of tests) refl e
  where
    tests : List Test
    tests = frame_tests file ++ level_tests file (sound_left file) (sound_right file) (asked a.wish file) a.room

    go : (o : Option Refusal) → refusal_of tests ≡ o → is_yes (planned o (sound_gives file (level_gives file (sound_left file) (sound_right file) (asked a.wish file)))) ≡ true → Fine (audio_of file)
    go None q e = record { some-frame = passed tests q NoFrame _ refl; unchecked = not-true _ (passed tests q HasChecksum _ refl) }
    go (Some r) q e = absurd (true≢false (sym e))

refused-stays : (file : List ℕ) (a : Asked) → accepts file a ≡ false → next file a ≡ file
unfolding accepts next
refused-stays file a e = go (plan_of file a) e
  where
    go : (p : Plan Levelled) → is_yes p ≡ false → after file p ≡ file
    go (no r) e = refl
    go (yes o) e = absurd (true≢false e)

-- where a call of a list is accepted
fine_of : (as' : List Asked) (file : List ℕ) → ¬ (accepted file as' ≡ []) → Fine (audio_of file)
unfolding accepted
fine_of [] file n = absurd (n refl)
fine_of (a ∷ as') file n = go (accepts file a) refl n (fine_of as' file)
  where
    go : (t : Bool) → accepts file a ≡ t → ¬ (accepted file (a ∷ as') ≡ []) → (¬ (accepted file as' ≡ []) → Fine (audio_of file)) → Fine (audio_of file)
    go true q n ih = accepts-fine file a q
    go false q n ih = ih (λ e. n (rw (q, refused-stays file a q) e))

-- the same calls on lists of gains
unfoldable pub calls_of : List ℕ → List Asked → List Call
calls_of file [] = []
calls_of file (a ∷ as') = call_of file a ∷ calls_of (next file a) as'

-- ---- one call

-- by what the call is
by-plan : (file : List ℕ) (a : Asked) (p : Plan Levelled) → plan_of file a ≡ p → (accepts file a ≡ is_yes p) × (next file a ≡ after file p)
unfolding accepts next
by-plan file a p e = (ap is_yes e, ap (after file) e)

by-lists : (file : List ℕ) (s : State) (a : Asked) (p : Plan Levelled) → level_plan s.file s.left s.right (asked a.wish file) a.room ≡ p
    → (lists.accepts s (call_of file a) ≡ is_yes (lists.level_to p)) × (lists.next s (call_of file a) ≡ lists.after s (lists.level_to p))
unfolding lists.accepts lists.next lists.outcome
by-lists file s a p e = (ap (λ (p : Plan Levelled). is_yes (lists.level_to p)) e, ap (λ (p : Plan Levelled). lists.after s (lists.level_to p)) e)

module _ (front back : List ℕ) (clear : Before (length front - 160) (fields_in front)) where
  on-side : (file : List ℕ) (s : State) → Holds front back file s → (side : Side) → sound_on side file ≡ gains_on side s
  on-side file s h on_left = ap sound_left h.full ∙ left_is front back clear s.left s.right h.fits h.items h.sound
  on-side file s h on_right = ap sound_right h.full ∙ right_is front back clear s.left s.right h.fits h.items h.sound

  module _ (fine : Fine front) where
    pub record Step (file : List ℕ) (s : State) (a : Asked) : Type 0 where
      pub same : accepts file a ≡ lists.accepts s (call_of file a)
      pub holds : Holds front back (next file a) (lists.next s (call_of file a))

    step : (file : List ℕ) (s : State) → Holds front back file s → (a : Asked) → Step file s a
    unfolding level_plan levelled
    step file s h a = go (refusal_of tests) refl
      where
        tests : List Test
        tests = level_tests (file_of front h.items back) s.left s.right (asked a.wish file) a.room

        sounds : plan_of file a ≡ planned (refusal_of tests) (levelled front back s.left s.right h.items (asked a.wish file))
        sounds = ap (λ (f : List ℕ). level_sound_plan f (asked a.wish file) a.room) h.full ∙ level-is front back clear s.left s.right h.fits h.items h.sound fine (asked a.wish file) a.room

        plain : level_plan s.file s.left s.right (asked a.wish file) a.room ≡ planned (refusal_of tests) (level_gives (file_of front h.items back) s.left s.right (asked a.wish file))
        plain = ap (λ (f : List ℕ). level_plan f s.left s.right (asked a.wish file) a.room) h.bare

        out : replaced (file_of front h.items back) (new_items (file_of front h.items back) s.left s.right (asked a.wish file)) ≡ file_of front (new_tag (asked a.wish file) h.items s.left s.right) back
        out = law-replaced front h.items back h.sound _ ∙ ap (λ (ts : List Item). file_of front (new_tag (asked a.wish file) ts s.left s.right) back) (law-items front h.items back h.sound)

        go : (o : Option Refusal) → refusal_of tests ≡ o → Step file s a
        go (Some r) q =
            let (x, y) = by-plan file a (no r) (sounds ∙ ap (λ (o : Option Refusal). planned o (levelled front back s.left s.right h.items (asked a.wish file))) q) in
            let (v, w) = by-lists file s a (no r) (plain ∙ ap (λ (o : Option Refusal). planned o (level_gives (file_of front h.items back) s.left s.right (asked a.wish file))) q) in
            record { same = x ∙ sym v; holds = rw (y, w) h }
        go None q =
            let gives = level_gives (file_of front h.items back) s.left s.right (asked a.wish file) in
            let there = levelled front back s.left s.right h.items (asked a.wish file) in
            let done_plain : level_plan (file_of front h.items back) s.left s.right (asked a.wish file) a.room ≡ yes gives = ap (λ (o : Option Refusal). planned o gives) q in
            let p = level-passes front back h.items h.sound s.left s.right (asked a.wish file) a.room gives done_plain in
            let (x, y) = by-plan file a (yes there) (sounds ∙ ap (λ (o : Option Refusal). planned o there) q) in
            let (v, w) = by-lists file s a (yes gives) (plain ∙ ap (λ (o : Option Refusal). planned o gives) q) in
            let held : Holds front back there.out (record { file = gives.out; left = gives.left; right = gives.right }) = record {
              items = new_tag (asked a.wish file) h.items s.left s.right;
              sound = level-sound front back h.items h.sound s.left s.right (asked a.wish file) a.room p;
              bare = out;
              full = refl;
              fits = fits-adjusted front s.left s.right h.fits (asked a.wish file).mode (asked a.wish file).left (asked a.wish file).right;
            } in
            record { same = x ∙ sym v; holds = rw (y, w) held }

    -- ---- a list of calls

    -- from file and s, the list leads to files beside each other, and the same calls are accepted
    pub record Along (file : List ℕ) (s : State) (as' : List Asked) : Type 1 where
      pub holds : Holds front back (run file as') (lists.run s (calls_of file as'))
      pub levels : accepted file as' ≡ lists.accepted_levels s (calls_of file as')
      pub wrapped : Wrapped file as' ≡ lists.Wrapped s (calls_of file as')
      pub landed : (side : Side) (i : ℕ) → Landed side i file as' ≡ lists.Landed side i s (calls_of file as')

    along : (as' : List Asked) (file : List ℕ) (s : State) → Holds front back file s → Along file s as'
    unfolding calls_of run accepted Wrapped Landed lists.run lists.accepted_levels lists.Wrapped lists.Landed
    along [] file s h = record { holds = h; levels = refl; wrapped = refl; landed = λ side i. refl }
    along (a ∷ as') file s h =
        let t = step file s h a in
        let e = t.same in
        let k = along as' (next file a) (lists.next s (call_of file a)) t.holds in
        record {
          holds = k.holds;
          levels = λ i. level_if (e i) (call_of file a) ++ k.levels i;
          wrapped = λ i. WrapsIf (e i) (call_of file a) × k.wrapped i;
          landed = λ side n i. LandsIf (e i) (call_of file a) side (get_or (on-side file s h side i) n 0) × k.landed side n i;
        }

-- ---- the undo

-- level calls alone leave the book
book-stays : (as' : List Asked) (file : List ℕ) (b : Book) (s : State) → lists.fed b s (calls_of file as') ≡ b
unfolding calls_of lists.fed
book-stays [] file b s = refl
book-stays (a ∷ as') file b s = book-stays as' (next file a) b (lists.next s (call_of file a))

all_apart : (as' : List Asked) (file : List ℕ) → Apart (calls_of file as')
unfolding calls_of Apart
all_apart [] file = tt
all_apart (a ∷ as') file = all_apart as' (next file a)

all-bytes : (gs : List ℕ) → AllSmall gs → Small gs
all-bytes [] p i = omega arith
all-bytes (g ∷ gs) (h, p) zero = h
all-bytes (g ∷ gs) (h, p) (suc i) = all-bytes gs p i

small-front : (a b : List ℕ) → Small (a ++ b) → Small a
small-front [] b h i = omega arith
small-front (x ∷ a) b h zero = h zero
small-front (x ∷ a) b h (suc i) = small-front a b (λ i. h (suc i)) i

module _ (file : List ℕ) (as' : List Asked) (room : ℕ) (given : Given file as' room) where
  start : State
  start = record { file = file; left = sound_left file; right = sound_right file }

  calls : List Call
  calls = calls_of file as'

  first-sound : Sound (audio_of file) (items_of file) (split file).back
  first-sound = settled-sound file given.settled-file

  first-file : file_of (audio_of file) (items_of file) (split file).back ≡ file
  unfolding book_file book_of
  first-file = settled-book file given.settled-file

  first-bytes : Small (audio_of file)
  unfolding file_of
  first-bytes = small-front (audio_of file) (serialize (items_of file) ++ (split file).back) (rw first-file given.bytes)

  fine : Fine (audio_of file)
  fine = fine_of as' file given.some_level

  first_holds : Holds (audio_of file) (split file).back file start
  unfolding start
  first_holds = record {
    items = items_of file;
    sound = first-sound;
    bare = sym first-file;
    full = sym (ap (λ (a : List ℕ). file_of a (items_of file) (split file).back) (audio-same (audio_of file) first-bytes) ∙ first-file);
    fits = record { small-left = small-left (fields_in (audio_of file)) (audio_of file); small-right = small-right (fields_in (audio_of file)) (audio_of file); all_left = refl; all_right = refl };
  }

  all : Along (audio_of file) (split file).back given.clear fine file start as'
  all = along (audio_of file) (split file).back given.clear fine as' file start first_holds

  last : State
  last = lists.run start calls

  last-holds : Holds (audio_of file) (split file).back (run file as') last
  unfolding last calls
  last-holds = all.holds

  same-long : length (run file as') ≡ length last.file
  same-long =
      ap length last-holds.full
      ∙ file-long (with_gains (audio_of file) last.left last.right) (audio_of file) last-holds.items (split file).back (length-audio (audio_of file) last.left last.right)
      ∙ sym (ap length last-holds.bare)

  -- demand 3 of the calls on lists
  lists-given : demand.Given start calls room
  unfolding start calls last
  lists-given = record {
    settled-file = given.settled-file;
    none-of-eight = given.none-of-eight;
    bytes = λ side. elim side as (λ one. Small (gains_on one start)) [
      | on_left ↦ all-bytes (sound_left file) (small-left (fields_in (audio_of file)) (audio_of file))
      | on_right ↦ all-bytes (sound_right file) (small-right (fields_in (audio_of file)) (audio_of file))
    ];
    apart = all_apart as' file;
    some_level = λ e. given.some_level (all.levels ∙ e);
    long = omega (arith, given.long, same-long);
  }

  lists-restored : demand.Restored start calls room
  unfolding Demand3
  lists-restored = demand3 start calls room lists-given

  ts : List Item
  ts = last-holds.items

  abbrev gone : Levelled
  gone = lists-restored.undone

  -- the undo on lists is done
  lists-undo : (refusal_of (undo_tests (file_of (audio_of file) ts (split file).back) last.left room) ≡ None)
      × (undo_gives (file_of (audio_of file) ts (split file).back) last.left last.right ≡ gone)
  unfolding undo_plan last ts
  lists-undo = done _ _ gone (ap (λ (f : List ℕ). undo_plan f last.left last.right room) (sym last-holds.bare) ∙ lists-restored.accepted)

  -- so is the undo on the sound
  result : Levelled
  result = undone (audio_of file) (split file).back last.left last.right ts

  sound-undo : undo_mp3_plan (run file as') room ≡ yes result
  unfolding result ts
  sound-undo =
      ap (λ (f : List ℕ). undo_mp3_plan f room) last-holds.full
      ∙ undo-is (audio_of file) (split file).back given.clear last.left last.right last-holds.fits last-holds.items last-holds.sound fine room
      ∙ ap (λ (o : Option Refusal). planned o (undone (audio_of file) (split file).back last.left last.right last-holds.items)) lists-undo.0

  items-are : items_of (file_of (audio_of file) ts (split file).back) ≡ ts
  unfolding ts
  items-are = law-items (audio_of file) last-holds.items (split file).back last-holds.sound

  -- it leaves the gains that the undo on lists leaves
  same-gains : (side : Side) → undone_on side result ≡ undone_on side gone
  unfolding result undone
  same-gains on_left = ap (λ (x : List Item). undone_left (text_in x) last.left) (sym items-are) ∙ ap (λ (o : Levelled). o.left) lists-undo.1
  same-gains on_right = ap (λ (x : List Item). undone_right (text_in x) last.right) (sym items-are) ∙ ap (λ (o : Levelled). o.right) lists-undo.1

  -- without the eight keys the file is the first one
  others-file : file_of (audio_of file) (others ts) (split file).back ≡ file
  unfolding start ts calls lists.book_after
  others-file =
      sym (law-replaced (audio_of file) ts (split file).back last-holds.sound (others ts))
      ∙ ap (λ (x : List Item). replaced (file_of (audio_of file) ts (split file).back) (others x)) (sym items-are)
      ∙ ap (λ (o : Levelled). o.out) lists-undo.1
      ∙ lists-restored.file
      ∙ ap book_file (book-stays as' file (book_of file) start)
      ∙ settled-book file given.settled-file

  rest-is : drop (length (audio_of file)) file ≡ serialize (others ts) ++ (split file).back
  unfolding file_of
  rest-is = ap (drop (length (audio_of file))) (sym others-file) ∙ drop-append_seam (audio_of file) (serialize (others ts) ++ (split file).back)

  only-gains : result.out ≡ gains_written file result.left result.right file
  unfolding result undone gains_written file_of
  only-gains = ap (λ (w : List ℕ). with_gains (audio_of file) result.left result.right ++ w) (sym rest-is)

  result_fits : Fits (audio_of file) result.left result.right
  unfolding result undone
  result_fits = fits-adjusted (audio_of file) last.left last.right last-holds.fits (mode_of (undo_wraps (text_in ts))) (parse_undo (text_in ts)).left (parse_undo (text_in ts)).right

  result-sound : Sound (audio_of file) (others ts) (split file).back
  unfolding others ts
  result-sound = sound-without (audio_of file) (split file).back last-holds.items last-holds.sound is_mp3gain_key

  there : (side : Side) → sound_on side result.out ≡ undone_on side result
  unfolding result undone
  there on_left = left_is (audio_of file) (split file).back given.clear result.left result.right result_fits (others ts) result-sound
  there on_right = right_is (audio_of file) (split file).back given.clear result.left result.right result_fits (others ts) result-sound

  -- ---- each gain

  start-side : (side : Side) → gains_on side start ≡ sound_on side file
  unfolding start
  start-side on_left = refl
  start-side on_right = refl

  lengths : (side : Side) → length (undone_on side result) ≡ length (sound_on side file)
  lengths side = ap length (same-gains side) ∙ lists-restored.lengths side ∙ ap length (start-side side)

  held-is : (side : Side) (i : ℕ) → (lists.Wrapped start calls ⊎ (get_or (gains_on side start) i 0 ≡ 0) ⊎ lists.Landed side i start calls) ≡ Held side i file as'
  unfolding calls
  held-is side i = λ j. sym all.wrapped j ⊎ (get_or (start-side side j) i 0 ≡ 0) ⊎ sym (all.landed side i) j

  gain : (side : Side) (i : ℕ) → i < length (sound_on side file) → (get_or (undone_on side result) i 0 ≡ get_or (sound_on side file) i 0) ↔ Held side i file as'
  gain side i h = rw (same-gains side, ← held-is side i, ← start-side side) (lists-restored.gain side i (rw start-side h))

  own-gains : gains_written file (sound_left file) (sound_right file) file ≡ file
  unfolding gains_written file_of
  own-gains =
      ap (λ (a : List ℕ). a ++ drop (length (audio_of file)) file) (audio-same (audio_of file) first-bytes)
      ∙ ap (λ (w : List ℕ). audio_of file ++ w) rest-is ∙ others-file

  whole : ((side : Side) (i : ℕ) → i < length (sound_on side file) → Held side i file as') → result.out ≡ file
  whole all_held =
      let back_on : (side : Side) → undone_on side result ≡ sound_on side file
      = λ side. ext_get_or 0 (undone_on side result) (sound_on side file) (lengths side) (λ i h. (gain side i (omega (arith, lengths side))).1 (all_held side i (omega (arith, lengths side)))) in
      only-gains
      ∙ ap (λ (l : List ℕ). gains_written file l result.right file) (back_on on_left)
      ∙ ap (λ (l : List ℕ). gains_written file (sound_left file) l file) (back_on on_right)
      ∙ own-gains

pub claim : Claim
unfolding Claim
claim file as' room g = record {
  undone = result file as' room g;
  undo-accepted = sound-undo file as' room g;
  only-gains = only-gains file as' room g;
  lengths = lengths file as' room g;
  there = there file as' room g;
  gain = gain file as' room g;
  whole = whole file as' room g;
}
