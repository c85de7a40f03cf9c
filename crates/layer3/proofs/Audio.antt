-- Laws of the gains of audio: other gains leave its frames and every other bit, and are read back.
use Prim.Native.Nat.{ℕ, suc, ◌+◌, ◌≤◌, ◌<◌}
use native.Mathlib.Omega.{arith}
use mathlib.Core.Path.{◌≡◌, refl, ap, ◌∙◌}
use mathlib.Core.Logic.{inr}
use mathlib.Core.Bool.{Bool, true, false}
use mathlib.Core.List.{List, [], ◌∷◌, map}
use lib.ListN.{length, get_or}
use Rattle.lists.specs.Bytes.{ascii, starts_with, Small}
use Rattle.layer3.specs.Fields.{Field, read_left, read_right, write_fields, moved_by, Before}
use Rattle.layer3.specs.Walk.{walk_start, walk, frames_in, fields_of, fields_in, left_gains, right_gains, with_gains}
use Rattle.layer3.proofs.Fields.{byte_of, AllSmall, Outside, Spread, more, outside-before, length-gains, gains-other, small-gains, left_back, right-back, gains-same, gains-twice, moved-gains}
use Rattle.layer3.proofs.Walk.{walk-spread, Alike, walk-alike}

-- ---- where the walk begins

-- a text that stands at the start sees only its own bytes
pub starts-alike : (p s t : List ℕ) → length t ≡ length s → ((i : ℕ) → i < length p → get_or t i 0 ≡ get_or s i 0) → starts_with p t ≡ starts_with p s
unfolding starts_with
starts-alike [] s t l h = refl
starts-alike (x ∷ p) [] [] l h = refl
starts-alike (x ∷ p) [] (z ∷ t) l h = absurd (omega arith)
starts-alike (x ∷ p) (y ∷ s) [] l h = absurd (omega arith)
starts-alike (x ∷ p) (y ∷ s) (z ∷ t) l h =
    let e : z ≡ y = h 0 (omega arith) in
    rw (e, starts-alike p s t (omega arith) (λ i k. h (suc i) (omega arith)))

start-alike : (s t : List ℕ) → length t ≡ length s → ((i : ℕ) → i < walk_start s + 4 → get_or t i 0 ≡ get_or s i 0) → walk_start t ≡ walk_start s
unfolding walk_start
start-alike s t l h =
    let e : starts_with (ascii "ID3") t ≡ starts_with (ascii "ID3") s = starts-alike (ascii "ID3") s t l (λ i k. h i (omega arith)) in
    go (starts_with (ascii "ID3") s) refl e h
  where
    go : (b : Bool) → starts_with (ascii "ID3") s ≡ b → starts_with (ascii "ID3") t ≡ starts_with (ascii "ID3") s
        → ((i : ℕ) → i < walk_start s + 4 → get_or t i 0 ≡ get_or s i 0) → walk_start t ≡ walk_start s
    go false q e h = rw (e, q)
    go true q e h =
        let k : (i : ℕ) → i < 10 → get_or t i 0 ≡ get_or s i 0 = λ i l. h i (rw q (omega arith)) in
        rw (e, q, k 5 (omega arith), k 6 (omega arith), k 7 (omega arith), k 8 (omega arith), k 9 (omega arith))

-- ---- other gains

pub fields_within : (s : List ℕ) → Spread (walk_start s + 4) (length s) (fields_in s)
unfolding frames_in
fields_within s = walk-spread (length s) s (walk_start s)

module _ (s ls rs : List ℕ) where
  pub length-audio : length (with_gains s ls rs) ≡ length s
  length-audio = length-gains (fields_in s) ls rs s

  -- bytes of no field stay
  pub audio-other : (i : ℕ) → Outside i (fields_in s) → get_or (with_gains s ls rs) i 0 ≡ get_or s i 0
  audio-other i p = gains-other i (fields_in s) ls rs s p

  -- so do the frames
  pub frames-kept : frames_in (with_gains s ls rs) ≡ frames_in s
  unfolding frames_in
  frames-kept =
      let t = with_gains s ls rs in
      let p = fields_within s in
      let b : walk_start t ≡ walk_start s = start-alike s t length-audio (λ i h. audio-other i (outside-before i (fields_in s) h p)) in
      let a : Alike s t (walk_start s) (fields_of (walk (length s) s (walk_start s))) = record { long = length-audio; same = λ i h q. audio-other i q } in
      rw (length-audio, b) (walk-alike (length s) s t (walk_start s) a)

  pub fields-kept : fields_in (with_gains s ls rs) ≡ fields_in s
  fields-kept = ap fields_of frames-kept

  -- the gains are read back
  pub left-audio : AllSmall ls → length ls ≡ length (left_gains s) → left_gains (with_gains s ls rs) ≡ ls
  left-audio a l = ap (λ (fs : List Field). read_left fs (with_gains s ls rs)) fields-kept ∙ left_back (fields_in s) ls rs s (fields_within s) (omega arith) a l

  pub right-audio : AllSmall rs → length rs ≡ length (right_gains s) → right_gains (with_gains s ls rs) ≡ rs
  right-audio a l = ap (λ (fs : List Field). read_right fs (with_gains s ls rs)) fields-kept ∙ right-back (fields_in s) ls rs s (fields_within s) (omega arith) a l

  -- and are written over
  pub audio-twice : AllSmall ls → AllSmall rs → (ms ns : List ℕ) → length ms ≡ length (left_gains s) → length ns ≡ length (right_gains s)
      → with_gains (with_gains s ls rs) ms ns ≡ with_gains s ms ns
  audio-twice a b ms ns l m =
      ap (λ (fs : List Field). write_fields fs ms ns (with_gains s ls rs)) fields-kept ∙ gains-twice (fields_in s) ls rs ms ns s (fields_within s) (omega arith) a b l m

  pub small-audio : AllSmall ls → AllSmall rs → Small s → Small (with_gains s ls rs)
  small-audio a b k = small-gains (fields_in s) ls rs s a b k

-- a file's own gains change nothing
pub audio-same : (s : List ℕ) → Small s → with_gains s (left_gains s) (right_gains s) ≡ s
audio-same s b = gains-same (fields_in s) s b

-- every gain moved where it stands
pub audio-moved : (f g : ℕ → ℕ) (s : List ℕ) → moved_by f g (fields_in s) s ≡ with_gains s (map f (left_gains s)) (map g (right_gains s))
audio-moved f g s = moved-gains f g (fields_in s) s (fields_within s)

-- ---- the end of the audio

before-outside : {k e : ℕ} (m i : ℕ) (fs : List Field) → Spread k e fs → Before m fs → m ≤ i → Outside i fs
unfolding Before
before-outside m i [] p q h = tt
before-outside {k = k} m i (f ∷ fs) (more a b c p) (x, q) h = (inr (omega arith), before-outside {k = byte_of f + 2} m i fs p q h)

-- behind the last field nothing changes
pub end_kept : (s ls rs : List ℕ) (m i : ℕ) → Before m (fields_in s) → m ≤ i → get_or (with_gains s ls rs) i 0 ≡ get_or s i 0
end_kept s ls rs m i q h = audio-other s ls rs i (before-outside m i (fields_in s) (fields_within s) q h)
