-- A call on the sound of an MP3 does what the call on lists does, beside it.
use Prim.Native.Nat.{ℕ, ◌+◌, ◌-◌, ◌≤◌}
use native.Mathlib.Omega.{arith}
use Rattle.std.specs.Prelude.{unwrap_or}
use mathlib.Core.Path.{◌≡◌, refl, ap, ◌∙◌}
use mathlib.Core.Bool.{true, false, not}
use mathlib.Core.List.{List, [], ◌∷◌, ◌++◌}
use lib.ListN.{length, get_or, drop, length-append, length-drop, length-map}
use lib.Seq.{get_or-drop, drop-append_seam}
use lib.IntN.{ℤ}
use Rattle.lists.specs.Bytes.{starts_with}
use Rattle.replies.specs.Refusal.{Test, need, refusal_of, planned}
use Rattle.replies.specs.declared.Refusal.TheVariants.{NoFrame, HasChecksum}
use Rattle.frame.specs.declared.GainMode.{GainMode}
use Rattle.frame.specs.Gain.{mode_of, adjust}
use Rattle.frame.specs.Tail.{preamble, id3v1_mark, stands_at}
use Rattle.frame.proofs.Gains.{adjust-below}
use Rattle.values.specs.Undo.{parse_undo, undo_wraps}
use Rattle.items.specs.Items.{Item}
use Rattle.ape.specs.Tag.{Split, serialize, file_of, replaced}
use Rattle.layer3.specs.Fields.{Before}
use Rattle.layer3.specs.Walk.{Placed, frames_in, any_frame, any_checksum, fields_in, left_gains, right_gains, with_gains}
use Rattle.layer3.proofs.Fields.{AllSmall}
use Rattle.layer3.proofs.Audio.{starts-alike, length-audio, frames-kept, left-audio, right-audio, audio-twice, end_kept}
use Rattle.calls.specs.Gate.{items_of}
use Rattle.calls.specs.Calls.{Level, Levelled, adjusted, stored_undo, others, undone_left, undone_right, levelled_items, peaks_kept, new_items, level_tests, level_gives, undo_tests, undo_gives}
use Rattle.book.proofs.Sound.{Sound}
use Rattle.book.proofs.Reading.{law-split, law-passes, law-items, law-replaced}
use Rattle.sound_calls.specs.Sound.{audio_of, sound_left, sound_right, frame_tests, gains_written, sound_gives, level_sound_plan, undo_mp3_plan}

-- ---- the end of the audio

-- what stands at EOF-n is seen in the last n bytes
stands_alike : (n : ℕ) (p s t : List ℕ) → length t ≡ length s → ((i : ℕ) → length s - n ≤ i → get_or t i 0 ≡ get_or s i 0) → stands_at n p t ≡ stands_at n p s
unfolding stands_at
stands_alike n p s t l h =
    let k = length s - n in
    let e : starts_with p (drop k t) ≡ starts_with p (drop k s) = starts-alike p (drop k s) (drop k t) (simp length-drop (rw l)) (λ i q. simp get_or-drop (h (k + i) (omega arith))) in
    rw (l, e)

-- other gains leave a sound book sound, where no field reaches into the last 160 bytes
pub sound-kept : (front ls rs back : List ℕ) (ts : List Item) → Before (length front - 160) (fields_in front) → Sound front ts back → Sound (with_gains front ls rs) ts back
sound-kept front ls rs back ts q s =
    let k : (i : ℕ) → length front - 160 ≤ i → get_or (with_gains front ls rs) i 0 ≡ get_or front i 0 = λ i h. end_kept front ls rs (length front - 160) i q h in
    record {
      behind = s.behind;
      no-footer = stands_alike 32 preamble front (with_gains front ls rs) (length-audio front ls rs) (λ i h. k i (omega arith)) ∙ s.no-footer;
      no-id3 = λ e. stands_alike 128 id3v1_mark front (with_gains front ls rs) (length-audio front ls rs) (λ i h. k i (omega arith)) ∙ s.no-id3 e;
      good = s.good;
    }

-- ---- gains

pub small-adjusted : (m : GainMode) (steps : ℤ) (gs : List ℕ) → AllSmall (adjusted m steps gs)
small-adjusted m steps [] = tt
small-adjusted m steps (g ∷ gs) = (adjust-below m steps g, small-adjusted m steps gs)

-- a gain for every field of these frames
pub record Fits (front ls rs : List ℕ) : Type 0 where
  pub small-left : AllSmall ls
  pub small-right : AllSmall rs
  pub all_left : length ls ≡ length (left_gains front)
  pub all_right : length rs ≡ length (right_gains front)

pub fits-adjusted : (front ls rs : List ℕ) → Fits front ls rs → (m : GainMode) (a b : ℤ) → Fits front (adjusted m a ls) (adjusted m b rs)
fits-adjusted front ls rs f m a b = record {
  small-left = small-adjusted m a ls;
  small-right = small-adjusted m b rs;
  all_left = length-map ls (adjust m a) ∙ f.all_left;
  all_right = length-map rs (adjust m b) ∙ f.all_right;
}

-- ---- the file of a book, its gains apart, and with its gains in its sound

pub file-long : (a b : List ℕ) (ts : List Item) (back : List ℕ) → length a ≡ length b → length (file_of a ts back) ≡ length (file_of b ts back)
unfolding file_of
file-long a b ts back e = simp length-append (rw e)

-- frames, and none with a checksum
pub record Fine (front : List ℕ) : Type 0 where
  pub some-frame : any_frame (frames_in front) ≡ true
  pub unchecked : any_checksum (frames_in front) ≡ false

-- what level gives on the sound of a book's file
abbrev pub new_left : Level → List ℕ → List ℕ
new_left l ls = adjusted l.mode l.left ls

abbrev pub new_right : Level → List ℕ → List ℕ
new_right l rs = adjusted l.mode l.right rs

abbrev pub new_tag : Level → List Item → List ℕ → List ℕ → List Item
new_tag l ts ls rs = levelled_items l ts (new_left l ls ++ new_right l rs)

unfoldable pub levelled : List ℕ → List ℕ → List ℕ → List ℕ → List Item → Level → Levelled
levelled front back ls rs ts l = record {
  out = file_of (with_gains front (new_left l ls) (new_right l rs)) (new_tag l ts ls rs) back;
  left = new_left l ls;
  right = new_right l rs;
  peaks = peaks_kept l.left l.right ts;
}

-- and undo
abbrev pub text_in : List Item → List ℕ
text_in ts = unwrap_or (stored_undo ts) []

unfoldable pub undone : List ℕ → List ℕ → List ℕ → List ℕ → List Item → Levelled
undone front back ls rs ts = record {
  out = file_of (with_gains front (undone_left (text_in ts) ls) (undone_right (text_in ts) rs)) (others ts) back;
  left = undone_left (text_in ts) ls;
  right = undone_right (text_in ts) rs;
  peaks = 0;
}

module _ (front back : List ℕ) (clear : Before (length front - 160) (fields_in front)) (ls rs : List ℕ) (fits : Fits front ls rs) (ts : List Item) (s : Sound front ts back) where
  sound : Sound (with_gains front ls rs) ts back
  sound = sound-kept front ls rs back ts clear s

  pub audio-is : audio_of (file_of (with_gains front ls rs) ts back) ≡ with_gains front ls rs
  audio-is = ap (λ (x : Split). x.front) (law-split (with_gains front ls rs) ts back sound)

  pub left_is : sound_left (file_of (with_gains front ls rs) ts back) ≡ ls
  left_is = ap left_gains audio-is ∙ left-audio front ls rs fits.small-left fits.all_left

  pub right_is : sound_right (file_of (with_gains front ls rs) ts back) ≡ rs
  right_is = ap right_gains audio-is ∙ right-audio front ls rs fits.small-right fits.all_right

  frames-are : frames_in (audio_of (file_of (with_gains front ls rs) ts back)) ≡ frames_in front
  frames-are = ap frames_in audio-is ∙ frames-kept front ls rs

  -- other gains in the sound of another tag's file
  gains_written-is : (ms ns : List ℕ) → Fits front ms ns → (new : List Item)
      → gains_written (file_of (with_gains front ls rs) ts back) ms ns (replaced (file_of (with_gains front ls rs) ts back) new) ≡ file_of (with_gains front ms ns) new back
  unfolding gains_written
  gains_written-is ms ns f new =
      rw (audio-is, law-replaced (with_gains front ls rs) ts back sound new, audio-twice front ls rs fits.small-left fits.small-right ms ns f.all_left f.all_right)
      (unfold file_of in ap (λ (w : List ℕ). with_gains front ms ns ++ w) (drop-append_seam (with_gains front ls rs) (serialize new ++ back)))

  -- the tests of level see the same in both files
  level-tests : (l : Level) (room : ℕ) → level_tests (file_of (with_gains front ls rs) ts back) ls rs l room ≡ level_tests (file_of front ts back) ls rs l room
  level-tests l room =
      rw (
        law-passes (with_gains front ls rs) ts back sound,
        law-items (with_gains front ls rs) ts back sound,
        law-replaced (with_gains front ls rs) ts back sound (levelled_items l ts (adjusted l.mode l.left ls ++ adjusted l.mode l.right rs)),
        file-long (with_gains front ls rs) front ts back (length-audio front ls rs),
        file-long (with_gains front ls rs) front (levelled_items l ts (adjusted l.mode l.left ls ++ adjusted l.mode l.right rs)) back (length-audio front ls rs),
        law-passes front ts back s,
        law-items front ts back s,
        law-replaced front ts back s (levelled_items l ts (adjusted l.mode l.left ls ++ adjusted l.mode l.right rs)),
      )

  undo-tests : (room : ℕ) → undo_tests (file_of (with_gains front ls rs) ts back) ls room ≡ undo_tests (file_of front ts back) ls room
  undo-tests room =
      rw (
        law-passes (with_gains front ls rs) ts back sound,
        law-items (with_gains front ls rs) ts back sound,
        law-replaced (with_gains front ls rs) ts back sound (others ts),
        file-long (with_gains front ls rs) front ts back (length-audio front ls rs),
        file-long (with_gains front ls rs) front (others ts) back (length-audio front ls rs),
        law-passes front ts back s,
        law-items front ts back s,
        law-replaced front ts back s (others ts),
      )

  level-gives : (l : Level) → sound_gives (file_of (with_gains front ls rs) ts back) (level_gives (file_of (with_gains front ls rs) ts back) ls rs l) ≡ levelled front back ls rs ts l
  unfolding levelled
  level-gives l =
      let F = file_of (with_gains front ls rs) ts back in
      let p : peaks_kept l.left l.right (items_of F) ≡ peaks_kept l.left l.right ts = ap (peaks_kept l.left l.right) (law-items (with_gains front ls rs) ts back sound) in
      let e : new_items F ls rs l ≡ new_tag l ts ls rs = ap (λ (x : List Item). new_tag l x ls rs) (law-items (with_gains front ls rs) ts back sound) in
      let o = gains_written-is (new_left l ls) (new_right l rs) (fits-adjusted front ls rs fits l.mode l.left l.right) (new_items F ls rs l)
      ∙ ap (λ (x : List Item). file_of (with_gains front (new_left l ls) (new_right l rs)) x back) e in
      λ i. record { out = o i; left = new_left l ls; right = new_right l rs; peaks = p i }

  undo-gives : sound_gives (file_of (with_gains front ls rs) ts back) (undo_gives (file_of (with_gains front ls rs) ts back) ls rs) ≡ undone front back ls rs ts
  unfolding undone
  undo-gives =
      let F = file_of (with_gains front ls rs) ts back in
      let text = text_in ts in
      let e : items_of F ≡ ts = law-items (with_gains front ls rs) ts back sound in
      let o = gains_written-is (undone_left text ls) (undone_right text rs) (fits-adjusted front ls rs fits (mode_of (undo_wraps text)) (parse_undo text).left (parse_undo text).right) (others ts) in
      ap (λ (x : List Item). record {
        out = gains_written F (undone_left (text_in x) ls) (undone_right (text_in x) rs) (replaced F (others x));
        left = undone_left (text_in x) ls;
        right = undone_right (text_in x) rs;
        peaks = 0;
      }) e
      ∙ (λ i. record { out = o i; left = undone_left text ls; right = undone_right text rs; peaks = 0 })

  -- ---- the calls

  module _ (fine : Fine front) where
    frames-pass : frame_tests (file_of (with_gains front ls rs) ts back) ≡ need NoFrame true ∷ need HasChecksum true ∷ []
    frames-pass = ap (λ (fs : List Placed). need NoFrame (any_frame fs) ∷ need HasChecksum (not (any_checksum fs)) ∷ []) frames-are ∙ rw (fine.some-frame, fine.unchecked)

    module _ (l : Level) (room : ℕ) where
      level-framed : refusal_of (need NoFrame true ∷ need HasChecksum true ∷ level_tests (file_of front ts back) ls rs l room) ≡ refusal_of (level_tests (file_of front ts back) ls rs l room)
      level-framed = refl

      pub level-is : level_sound_plan (file_of (with_gains front ls rs) ts back) l room ≡ planned (refusal_of (level_tests (file_of front ts back) ls rs l room)) (levelled front back ls rs ts l)
      unfolding level_sound_plan
      level-is =
          let F = file_of (with_gains front ls rs) ts back in
          ap (λ (x : List ℕ). planned (refusal_of (frame_tests F ++ level_tests F x (sound_right F) l room)) (sound_gives F (level_gives F x (sound_right F) l))) left_is
          ∙ ap (λ (x : List ℕ). planned (refusal_of (frame_tests F ++ level_tests F ls x l room)) (sound_gives F (level_gives F ls x l))) right_is
          ∙ ap (λ (x : List Test). planned (refusal_of (x ++ level_tests F ls rs l room)) (sound_gives F (level_gives F ls rs l))) frames-pass
          ∙ ap (λ (x : List Test). planned (refusal_of (need NoFrame true ∷ need HasChecksum true ∷ x)) (sound_gives F (level_gives F ls rs l))) (level-tests l room)
          ∙ ap (planned (refusal_of (level_tests (file_of front ts back) ls rs l room))) (level-gives l)

    pub undo-is : (room : ℕ) → undo_mp3_plan (file_of (with_gains front ls rs) ts back) room ≡ planned (refusal_of (undo_tests (file_of front ts back) ls room)) (undone front back ls rs ts)
    unfolding undo_mp3_plan
    undo-is room =
        let F = file_of (with_gains front ls rs) ts back in
        ap (λ (x : List ℕ). planned (refusal_of (frame_tests F ++ undo_tests F x room)) (sound_gives F (undo_gives F x (sound_right F)))) left_is
        ∙ ap (λ (x : List ℕ). planned (refusal_of (frame_tests F ++ undo_tests F ls room)) (sound_gives F (undo_gives F ls x))) right_is
        ∙ ap (λ (x : List Test). planned (refusal_of (x ++ undo_tests F ls room)) (sound_gives F (undo_gives F ls rs))) frames-pass
        ∙ ap (λ (x : List Test). planned (refusal_of (need NoFrame true ∷ need HasChecksum true ∷ x)) (sound_gives F (undo_gives F ls rs))) (undo-tests room)
        ∙ ap (planned (refusal_of (undo_tests (file_of front ts back) ls room))) undo-gives
