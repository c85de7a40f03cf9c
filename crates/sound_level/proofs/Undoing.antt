-- Laws of undo on the sound: each refusal by the tests before it.
use Prim.Native.Nat.{ℕ, ◌≤◌, ◌<◌}
use mathlib.Core.Path.{◌≡◌, sym, ap, ◌∙◌}
use mathlib.Core.Bool.{Bool, true, false}
use Rattle.std.specs.Prelude.{Option, None, Some, unwrap_or}
use mathlib.Core.List.{List, [], ◌∷◌, ◌++◌}
use native.Mathlib.Omega.{arith}
use lib.IntN.{ℤ}
use lib.ListN.{length, take, length-append}
use lib.Seq.{length-take-le, take-append-le}
use Rattle.lists.specs.Write.{over}
use Rattle.frame.specs.declared.GainMode.{GainMode}
use Rattle.frame.specs.Gain.{mode_of}
use Rattle.values.specs.Undo.{parse_undo, undo_wraps}
use borrow.Author.Tests.{le-leb, lt-leb}
use Rattle.lists.specs.Choice.{found, is_some}
use Rattle.replies.specs.Refusal.{no, yes, need, refusal_of, planned}
use Rattle.replies.specs.declared.Refusal.{Refusal}
use Rattle.replies.specs.declared.Refusal.TheVariants.{FileTooLong, NoFrame, HasChecksum, NotEditable, NoUndo, NoRoom, SecondUndo}
use Rattle.ape.specs.Tag.{replaced}
use Rattle.ape.specs.Answers.{has_room}
use Rattle.layer3.specs.Walk.{frames_in, any_frame, any_checksum, left_gains, right_gains, with_gains}
use Rattle.calls.specs.Gate.{passes_gate, items_of}
use Rattle.calls.specs.Calls.{Levelled, adjusted, stored_undo, undo_once, others, undone_left, undone_right, undo_tests, undo_gives}
use Rattle.sound_calls.specs.Sound.{audio_of, sound_left, sound_right, frame_tests, sound_gives, undo_mp3_plan}
use Rattle.checks.specs.Checks.{undo_check}
use Rattle.checks.proofs.Whole.{done, refused}
use Rattle.sound_level.proofs.Sounding.{left_there, front-there, front_same, written-long, over-moved}

-- what undo gives on the sound with a stored text
abbrev pub undone_sound : List ℕ → List ℕ → Levelled
undone_sound file text =
    sound_gives file (record { out = replaced file (others (items_of file)); left = undone_left text (sound_left file); right = undone_right text (sound_right file); peaks = 0 })

-- the tests of the check come before that of the new file
parts : (gate once there room : Bool) (o : Option Refusal)
    → refusal_of (need NotEditable gate ∷ need SecondUndo once ∷ need NoUndo there ∷ []) ≡ o
    → refusal_of (need NotEditable gate ∷ need SecondUndo once ∷ need NoUndo there ∷ need NoRoom room ∷ []) ≡ found o (refusal_of (need NoRoom room ∷ [])) Some
parts false once there room o e = rw (← e)
parts true false there room o e = rw (← e)
parts true true false room o e = rw (← e)
parts true true true room o e = rw (← e)

module _ (file : List ℕ) (room : ℕ) where
  pub undo-1 : 16777216 < length file → undo_mp3_plan file room ≡ no FileTooLong
  unfolding undo_mp3_plan
  undo-1 h = rw (lt-leb _ _ h)

  module _ (h : length file ≤ 16777216) where
    pub undo-15 : any_frame (frames_in (audio_of file)) ≡ false → undo_mp3_plan file room ≡ no NoFrame
    unfolding undo_mp3_plan
    undo-15 e = rw (le-leb _ _ h, e)

    module _ (f : any_frame (frames_in (audio_of file)) ≡ true) where
      pub undo-16 : any_checksum (frames_in (audio_of file)) ≡ true → undo_mp3_plan file room ≡ no HasChecksum
      unfolding undo_mp3_plan
      undo-16 e = rw (le-leb _ _ h, f, e)

      module _ (u : any_checksum (frames_in (audio_of file)) ≡ false) where
        abbrev ample : Bool
        ample = has_room room (length (replaced file (others (items_of file))))

        abbrev first : Option Refusal
        first = refusal_of (need NotEditable (passes_gate file) ∷ need SecondUndo (undo_once (items_of file)) ∷ need NoUndo (is_some (stored_undo (items_of file))) ∷ [])

        -- of a file that is not too long
        checked : undo_check file true
            ≡ planned first (unwrap_or (stored_undo (items_of file)) [])
        unfolding undo_check
        checked = rw (le-leb _ _ h)

        tests-are : refusal_of (frame_tests file ++ undo_tests file (sound_left file) room)
            ≡ refusal_of (need NotEditable (passes_gate file) ∷ need SecondUndo (undo_once (items_of file)) ∷ need NoUndo (is_some (stored_undo (items_of file))) ∷ need NoRoom ample ∷ [])
        tests-are = rw (le-leb _ _ h, f, u, left_there (audio_of file) f)

        whole : (o : Option Refusal) → first ≡ o
            → undo_mp3_plan file room ≡ planned (found o (refusal_of (need NoRoom ample ∷ [])) Some) (sound_gives file (undo_gives file (sound_left file) (sound_right file)))
        unfolding undo_mp3_plan
        whole o e =
            ap (λ (q : Option Refusal). planned q (sound_gives file (undo_gives file (sound_left file) (sound_right file))))
            (tests-are ∙ parts (passes_gate file) (undo_once (items_of file)) (is_some (stored_undo (items_of file))) ample o e)

        pub undo-refused : {r : Refusal} → undo_check file true ≡ no r → undo_mp3_plan file room ≡ no r
        undo-refused {r} e = whole (Some r) (refused first (unwrap_or (stored_undo (items_of file)) []) (sym checked ∙ e))

        module _ (text : List ℕ) (e : undo_check file true ≡ yes text) where
          stored : text ≡ unwrap_or (stored_undo (items_of file)) []
          stored = (done first (unwrap_or (stored_undo (items_of file)) []) (sym checked ∙ e)).1

          last : undo_mp3_plan file room ≡ planned (refusal_of (need NoRoom ample ∷ [])) (undone_sound file text)
          last = whole None (done first (unwrap_or (stored_undo (items_of file)) []) (sym checked ∙ e)).0 ∙ rw stored

          pub undo-5 : ample ≡ false → undo_mp3_plan file room ≡ no NoRoom
          undo-5 a = last ∙ rw a

          pub undo-done : ample ≡ true → undo_mp3_plan file room ≡ yes (undone_sound file text)
          undo-done a = last ∙ rw a

-- ---- the end of an undo that is done

-- what is known when the file was written, and what follows when the gains were moved in it
pub record Ends (file : List ℕ) (text : List ℕ) (front n : ℕ) (old new : List ℕ) : Type 0 where
  pub length-is : n ≡ length (undone_sound file text).out
  pub room-there : front ≤ length new
  pub same-there : take front new ≡ take front file
  pub after : (m : GainMode) (a b : ℤ) → m ≡ mode_of (undo_wraps text) → a ≡ (parse_undo text).left → b ≡ (parse_undo text).right → {last : List ℕ}
      → last ≡ over (with_gains (take front file) (adjusted m a (left_gains (take front file))) (adjusted m b (right_gains (take front file)))) new
      → last ≡ over (undone_sound file text).out old

pub ended : (file text : List ℕ) (front n : ℕ) → take front file ≡ audio_of file → front ≤ length file → (old new : List ℕ)
    → n ≡ length (replaced file (others (items_of file))) → new ≡ over (replaced file (others (items_of file))) old → Ends file text front n old new
ended file text front n e w old new p now =
    let items = others (items_of file) in
    let ls = undone_left text (sound_left file) in
    let rs = undone_right text (sound_right file) in
    let long : length (audio_of file) ≡ front = ap length (sym e) ∙ length-take-le front file w in
    let fits : front ≤ length (replaced file items) = omega (arith, long, front-there file items [] []) in
    record {
      length-is = p ∙ sym (written-long file items ls rs);
      room-there = rw now (simp length-append (omega arith));
      same-there =
          ap (take front) now
          ∙ take-append-le front (replaced file items) _ fits
          ∙ ap (λ (m : ℕ). take m (replaced file items)) (sym long)
          ∙ front_same file items ls rs ∙ sym e;
      after = λ m a b em ea eb {last} q.
          q ∙ rw (em, ea, eb)
          (ap (λ (g : List ℕ). over (with_gains g (undone_left text (left_gains g)) (undone_right text (right_gains g))) new) e
          ∙ ap (over (with_gains (audio_of file) ls rs)) now ∙ over-moved file items ls rs old);
    }
