-- Laws of level on the sound: each refusal by the tests before it, and the gains moved in what was written.
use Prim.Native.Nat.{ℕ, ◌≤◌, ◌<◌}
use native.Mathlib.Omega.{arith}
use mathlib.Core.Path.{◌≡◌, refl, sym, ap, ◌∙◌}
use mathlib.Core.Bool.{Bool, true, false}
use Rattle.std.specs.Prelude.{Option, None, Some, Ok, Err}
use mathlib.Core.List.{List, [], ◌∷◌, ◌++◌, append_assoc}
use lib.ListN.{length, take, drop, length-append, length-drop}
use lib.Seq.{length-take-le, take-append-le, drop-append-le, take-append_seam}
use borrow.Author.Tests.{le-leb, lt-leb}
use Rattle.lists.specs.Write.{over}
use Rattle.replies.specs.Refusal.{Plan, no, yes, refusal_of, planned}
use Rattle.replies.specs.declared.Refusal.{Refusal}
use Rattle.replies.specs.declared.Refusal.TheVariants.{FileTooLong, StepOutOfRange, NoFrame, HasChecksum}
use Rattle.slip.specs.Slip.{is_step}
use Rattle.values.specs.declared.Range.{Range}
use Rattle.items.specs.Items.{Item}
use Rattle.ape.specs.Tag.{file_of, replaced}
use Rattle.layer3.specs.declared.Frame.{Frame}
use Rattle.layer3.specs.Fields.{Field, fields_from, read_left}
use Rattle.layer3.specs.Walk.{Placed, frames_in, fields_of, left_gains, right_gains, with_gains, any_frame, any_checksum}
use Rattle.layer3.proofs.Audio.{length-audio}
use Rattle.calls.specs.Gate.{items_of}
use Rattle.calls.specs.Calls.{Level, Levelled, peaks_kept, adjusted, range_of, levelled_items, new_items, is_there, level_tests, level_gives}
use Rattle.level_items.specs.Items.{undone_items, ranged_items}
use Rattle.ape_write.specs.Answers.{written_bytes}
use Rattle.level.specs.declared.Leveled.{Leveled}
use Rattle.level.specs.Answers.{filed_answer}
use Rattle.sound_calls.specs.Sound.{audio_of, sound_left, sound_right, frame_tests, gains_written, sound_gives, level_sound_plan}
use Rattle.sound_level.specs.Tagged.{tagged_items, tagged_tests, tagged_plan}

-- ---- a frame has a left gain

frame-left : (h : Frame) (o : ℕ) (fs : List Field) (s : List ℕ) → is_there (read_left (fields_from o h ++ fs) s) ≡ true
unfolding fields_from read_left
frame-left h o fs s = go h.mono h.mpeg1 h.checksum
  where
    go : (m e k : Bool) → is_there (read_left (fields_from o (record { size = h.size; mpeg1 = e; mono = m; checksum = k }) ++ fs) s) ≡ true
    go true e k = refl
    go false e k = refl

pub left_there : (s : List ℕ) → any_frame (frames_in s) ≡ true → is_there (left_gains s) ≡ true
unfolding fields_of
left_there s e = go (frames_in s) e
  where
    go : (fs : List Placed) → any_frame fs ≡ true → is_there (read_left (fields_of fs) s) ≡ true
    go [] e = absurd (let z : ◌≡◌ {A = ℕ} 0 1 = cc in omega arith)
    go (f ∷ fs) e = frame-left f.frame _ (fields_of fs) s

-- what level gives on the sound
abbrev pub sound_given : List ℕ → Level → Levelled
sound_given file l = sound_gives file (level_gives file (sound_left file) (sound_right file) l)

-- ---- the tests in order

module _ (file : List ℕ) (l : Level) (room : ℕ) where
  pub sound-1 : 16777216 < length file → level_sound_plan file l room ≡ no FileTooLong
  unfolding level_sound_plan
  sound-1 h = rw (lt-leb _ _ h)

  module _ (h : length file ≤ 16777216) where
    pub sound-2 : is_step l.left ≡ false → level_sound_plan file l room ≡ no StepOutOfRange
    unfolding level_sound_plan
    sound-2 e = rw (le-leb _ _ h, e)

    module _ (s : is_step l.left ≡ true) where
      pub sound-2-right : is_step l.right ≡ false → level_sound_plan file l room ≡ no StepOutOfRange
      unfolding level_sound_plan
      sound-2-right e = rw (le-leb _ _ h, s, e)

      module _ (t : is_step l.right ≡ true) where
        pub sound-15 : any_frame (frames_in (audio_of file)) ≡ false → level_sound_plan file l room ≡ no NoFrame
        unfolding level_sound_plan
        sound-15 e = rw (le-leb _ _ h, s, t, e)

        module _ (f : any_frame (frames_in (audio_of file)) ≡ true) where
          pub sound-16 : any_checksum (frames_in (audio_of file)) ≡ true → level_sound_plan file l room ≡ no HasChecksum
          unfolding level_sound_plan
          sound-16 e = rw (le-leb _ _ h, s, t, f, e)

          module _ (u : any_checksum (frames_in (audio_of file)) ≡ false) (range : Range)
              (r : range ≡ range_of (adjusted l.mode l.left (sound_left file) ++ adjusted l.mode l.right (sound_right file))) where
            -- the items that are written
            pub items-are : tagged_items l range (items_of file) ≡ new_items file (sound_left file) (sound_right file) l
            unfolding ranged_items undone_items levelled_items
            items-are = rw r

            -- what is left: the tests of the tag
            tests-are : refusal_of (frame_tests file ++ level_tests file (sound_left file) (sound_right file) l room) ≡ refusal_of (tagged_tests file l (new_items file (sound_left file) (sound_right file) l) room)
            tests-are = rw (le-leb _ _ h, s, t, f, u, left_there (audio_of file) f)

            sound-is : level_sound_plan file l room ≡ planned (refusal_of (tagged_tests file l (new_items file (sound_left file) (sound_right file) l) room)) (sound_given file l)
            unfolding level_sound_plan
            sound-is = ap (λ (o : Option Refusal). planned o (sound_given file l)) tests-are

            plan-is : tagged_plan file l range room
                ≡ planned (refusal_of (tagged_tests file l (new_items file (sound_left file) (sound_right file) l) room)) (replaced file (new_items file (sound_left file) (sound_right file) l))
            unfolding tagged_plan
            plan-is = ap (λ (new : List Item). planned (refusal_of (tagged_tests file l new room)) (replaced file new)) items-are

            -- by the plan of the tag
            pub sound-no : {q : Refusal} → tagged_plan file l range room ≡ no q → level_sound_plan file l room ≡ no q
            sound-no {q} e = sound-is ∙ go (refusal_of (tagged_tests file l (new_items file (sound_left file) (sound_right file) l) room)) (sym plan-is ∙ e)
              where
                go : (o : Option Refusal) → planned o (replaced file (new_items file (sound_left file) (sound_right file) l)) ≡ no q → planned o (sound_given file l) ≡ no q
                go None e = absurd (let z : ◌≡◌ {A = ℕ} 0 1 = cc in omega arith)
                go (Some x) e = let z : x ≡ q = cc in ap no z

            pub sound-yes : {w : List ℕ} → tagged_plan file l range room ≡ yes w
                → (level_sound_plan file l room ≡ yes (sound_given file l)) × (w ≡ replaced file (new_items file (sound_left file) (sound_right file) l))
            sound-yes {w} e =
                let (x, y) = go (refusal_of (tagged_tests file l (new_items file (sound_left file) (sound_right file) l) room)) (sym plan-is ∙ e) in
                (sound-is ∙ x, y)
              where
                go : (o : Option Refusal) → planned o (replaced file (new_items file (sound_left file) (sound_right file) l)) ≡ yes w
                    → (planned o (sound_given file l) ≡ yes (sound_given file l)) × (w ≡ replaced file (new_items file (sound_left file) (sound_right file) l))
                go None e = (refl, cc)
                go (Some x) e = absurd (let z : ◌≡◌ {A = ℕ} 0 1 = cc in omega arith)

-- ---- what was written

pub tagged-refused : (p : Plan (List ℕ)) {r : Refusal} (peaks : ℕ) → Err r ≡ filed_answer p peaks → p ≡ no r
tagged-refused (no q) {r} peaks e = let z : q ≡ r = cc in ap no z
tagged-refused (yes w) peaks e = absurd (let z : ◌≡◌ {A = ℕ} 0 1 = cc in omega arith)

pub tagged-done : (p : Plan (List ℕ)) {a : Leveled} (peaks : ℕ) → Ok a ≡ filed_answer p peaks → (w : List ℕ) × (p ≡ yes w) × (a ≡ record { length = length w; peaks = peaks })
tagged-done (no q) peaks e = absurd (let z : ◌≡◌ {A = ℕ} 0 1 = cc in omega arith)
tagged-done (yes w) peaks e = (w, refl, cc)

module _ (file : List ℕ) (ts : List Item) (ls rs : List ℕ) where
  -- the new file begins with the audio
  pub front-there : length (audio_of file) ≤ length (replaced file ts)
  unfolding replaced file_of
  front-there = simp length-append (omega arith)

  pub front_same : take (length (audio_of file)) (replaced file ts) ≡ audio_of file
  unfolding replaced file_of
  front_same = take-append_seam (audio_of file) _

  pub written-long : length (gains_written file ls rs (replaced file ts)) ≡ length (replaced file ts)
  unfolding gains_written
  written-long = simp (length-append, length-drop) (omega (arith, length-audio (audio_of file) ls rs, front-there))

  -- other gains over what was written
  pub over-moved : (out : List ℕ) → over (with_gains (audio_of file) ls rs) (over (replaced file ts) out) ≡ over (gains_written file ls rs (replaced file ts)) out
  unfolding gains_written
  over-moved out =
      let a = with_gains (audio_of file) ls rs in
      let n = length (audio_of file) in
      let l : length a ≡ n = length-audio (audio_of file) ls rs in
      let d : drop n (replaced file ts ++ drop (length (replaced file ts)) out) ≡ drop n (replaced file ts) ++ drop (length (replaced file ts)) out
      = drop-append-le n (replaced file ts) _ front-there in
      ap (λ (k : ℕ). a ++ drop k (over (replaced file ts) out)) l
      ∙ ap (λ (x : List ℕ). a ++ x) d
      ∙ sym (append_assoc a (drop n (replaced file ts)) (drop (length (replaced file ts)) out))
      ∙ ap (λ (k : ℕ). (a ++ drop n (replaced file ts)) ++ drop k out) (sym (unfold gains_written in written-long))

-- ---- the end of a call that is done

-- what is known when the tag was written, and what follows when the gains were moved in it
pub record Ends (file : List ℕ) (l : Level) (room front : ℕ) (a : Leveled) (old new : List ℕ) : Type 0 where
  pub accepted : level_sound_plan file l room ≡ yes (sound_given file l)
  pub answer : a ≡ record { length = length (sound_given file l).out; peaks = (sound_given file l).peaks }
  pub room-there : front ≤ length new
  pub same-there : take front new ≡ take front file
  pub after : {last : List ℕ}
      → last ≡ over (with_gains (take front file) (adjusted l.mode l.left (left_gains (take front file))) (adjusted l.mode l.right (right_gains (take front file)))) new
      → last ≡ over (sound_given file l).out old

module _ (file : List ℕ) (l : Level) (room : ℕ) (h : length file ≤ 16777216) (s : is_step l.left ≡ true) (t : is_step l.right ≡ true)
    (f : any_frame (frames_in (audio_of file)) ≡ true) (u : any_checksum (frames_in (audio_of file)) ≡ false) (range : Range)
    (r : range ≡ range_of (adjusted l.mode l.left (sound_left file) ++ adjusted l.mode l.right (sound_right file))) where
  pub ended : (front : ℕ) → take front file ≡ audio_of file → front ≤ length file → {a : Leveled} (old new : List ℕ)
      → Ok a ≡ filed_answer (tagged_plan file l range room) (peaks_kept l.left l.right (items_of file))
      → new ≡ over (written_bytes (tagged_plan file l range room)) old → Ends file l room front a old new
  ended front e w {a} old new p o =
      let items = new_items file (sound_left file) (sound_right file) l in
      let (x, y, z) = tagged-done (tagged_plan file l range room) (peaks_kept l.left l.right (items_of file)) p in
      let (v, i) = sound-yes file l room h s t f u range r y in
      let long : length (audio_of file) ≡ front = ap length (sym e) ∙ length-take-le front file w in
      let now : new ≡ over (replaced file items) old = o ∙ ap (λ (g : Plan (List ℕ)). over (written_bytes g) old) y ∙ ap (λ (g : List ℕ). over g old) i in
      let fits : front ≤ length (replaced file items) = omega (arith, long, front-there file items [] []) in
      let ls = adjusted l.mode l.left (sound_left file) in
      let rs = adjusted l.mode l.right (sound_right file) in
      record {
        accepted = v;
        answer = z ∙ ap (λ (m : ℕ). record { length = m; peaks = peaks_kept l.left l.right (items_of file) }) (ap length i ∙ sym (written-long file items ls rs));
        room-there = rw now (simp length-append (omega arith));
        same-there =
            ap (take front) now
            ∙ take-append-le front (replaced file items) _ fits
            ∙ ap (λ (m : ℕ). take m (replaced file items)) (sym long)
            ∙ front_same file items ls rs ∙ sym e;
        after = λ {last} m.
            m ∙ ap (λ (g : List ℕ). over (with_gains g (adjusted l.mode l.left (left_gains g)) (adjusted l.mode l.right (right_gains g))) new) e
            ∙ ap (over (with_gains (audio_of file) ls rs)) now ∙ over-moved file items ls rs old;
      }
