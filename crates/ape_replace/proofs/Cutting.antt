-- Laws of `cut_of` and `tag_cut`: where a file is cut, by the tests of the code, and that it leaves the parts that `split` says.
use Rattle.std.specs.Prelude.{Option, None, Some}
use Prim.Native.Nat.{ℕ, zero, suc, ◌+◌, ◌-◌, ◌≤◌, ◌<◌}
use native.Mathlib.Omega.{arith}
use mathlib.Core.Path.{◌≡◌, refl, sym, ap, ◌∙◌}
use mathlib.Core.Bool.{Bool, true, false, cond}
use mathlib.Core.List.{List, [], ◌∷◌, ◌++◌}
use lib.ListN.{length, take, drop, length-append, length-drop, drop_of_length-le}
use lib.Seq.{length-take-le, take-take, take_all}
use lib.Dec.{leb, ltb}
use borrow.Author.Tests.{leb-true, ltb-true, ltb-false, lt-ltb, le-ltb}
use Rattle.lists.specs.Bytes.{starts_with}
use Rattle.lists.specs.Write.{part}
use Rattle.frame.specs.Tail.{id3v1_mark, stands_at, ends_with_id3v1, tag_start}
use Rattle.frame.proofs.Tails.{id3v1-long, start-within}
use Rattle.lists.proofs.Wrote.{Wrote}
use Rattle.lists.proofs.Places.{length_part}
use Rattle.items.specs.Items.{Item}
use Rattle.ape.specs.Tag.{Split, find_footer, moved, split, serialize, file_of, replaced}
use Rattle.ape_replace.specs.declared.Cut.{Cut}
use Rattle.ape_replace.specs.Answers.{cut, tag_cut, audio_cut, cut_of, Cuts}

take-nil : (n : ℕ) → ◌≡◌ {A = List ℕ} (take n []) []
take-nil zero = refl
take-nil (suc n) = refl

drop-nil : (n : ℕ) → ◌≡◌ {A = List ℕ} (drop n []) []
drop-nil zero = refl
drop-nil (suc n) = refl

-- a part between two places is what is left of the front up to the second
pub part-front : (s : List ℕ) (a b : ℕ) → part a b s ≡ drop a (take b s)
part-front [] a b = ap (take (b - a)) (drop-nil a) ∙ take-nil (b - a) ∙ sym (ap (drop a) (take-nil b) ∙ drop-nil a)
part-front (x ∷ s) zero b = let z : b - 0 ≡ b = omega arith in rw z
part-front (x ∷ s) (suc a) zero = let z : 0 - suc a ≡ 0 = omega arith in rw z
part-front (x ∷ s) (suc a) (suc b) = let z : suc b - suc a ≡ b - a = omega arith in rw z (part-front s a b)

-- the parts that a cut leaves
abbrev pub CutsAs : Split → List ℕ → Cut → Type 0
CutsAs x s c = Cuts x s c.front c.from c.to

module _ (s : List ℕ) (end : ℕ) where
  -- the block is what follows
  pub audio-block : ends_with_id3v1 (take end s) ≡ true → cut (end - 128) (end - 128) end ≡ audio_cut s end
  unfolding audio_cut
  audio-block e = rw e

  -- there is none
  pub audio-plain : ends_with_id3v1 (take end s) ≡ false → cut end end end ≡ audio_cut s end
  unfolding audio_cut
  audio-plain e = rw e

  module _ (within : end ≤ length s) where
    long : length (take end s) ≡ end
    long = length-take-le end s within

    pub block-long : ends_with_id3v1 (take end s) ≡ true → 128 ≤ end
    block-long e = omega (arith, id3v1-long (take end s) e, long)

    -- so the block moves behind the tag, as `moved` says
    audio-cuts : CutsAs (moved (take end s) []) s (audio_cut s end)
    unfolding moved
    audio-cuts = go (ends_with_id3v1 (take end s)) refl
      where
        go : (t : Bool) → ends_with_id3v1 (take end s) ≡ t → CutsAs (moved (take end s) []) s (audio_cut s end)
        go true e =
            let h : 128 ≤ end = block-long e in
            rw (← audio-block e, e, long) (record {
              front-is = sym (take-take (end - 128) end s (omega arith));
              back_is = part-front s (end - 128) end;
              front-within = omega arith;
              order = omega arith;
              within = within;
            })
        go false e =
            let z : end - end ≡ 0 = omega arith in
            rw (← audio-plain e, e) (record { front-is = refl; back_is = rw z; front-within = within; order = omega arith; within = within })

module _ (s : List ℕ) where
  -- ---- the cut, by the tests of the code

  -- all is audio
  pub cut-none : find_footer s ≡ None → audio_cut s (length s) ≡ cut_of s
  unfolding cut_of
  cut-none e = rw e

  module _ (f : ℕ) (at : find_footer s ≡ Some f) where
    pub cut-unstarted : tag_start s f ≡ None → audio_cut s (length s) ≡ cut_of s
    unfolding cut_of
    cut-unstarted e = rw (at, e)

    -- something follows the footer
    pub cut-rest : (a : ℕ) → tag_start s f ≡ Some a → f + 32 < length s → cut a (f + 32) (length s) ≡ cut_of s
    unfolding cut_of
    cut-rest a e h = rw (at, e, lt-ltb _ _ h)

    -- nothing does
    pub cut-last : (a : ℕ) → tag_start s f ≡ Some a → length s ≤ f + 32 → audio_cut s a ≡ cut_of s
    unfolding cut_of
    cut-last a e h = rw (at, e, le-ltb _ _ h)

  -- ---- the cut around the tag alone

  -- all is audio
  pub tag-none : find_footer s ≡ None → cut (length s) (length s) (length s) ≡ tag_cut s
  unfolding tag_cut
  tag-none e = rw e

  module _ (f : ℕ) (at : find_footer s ≡ Some f) where
    pub tag-unstarted : tag_start s f ≡ None → cut (length s) (length s) (length s) ≡ tag_cut s
    unfolding tag_cut
    tag-unstarted e = rw (at, e)

    pub tag-started : (a : ℕ) → tag_start s f ≡ Some a → cut a (f + 32) (length s) ≡ tag_cut s
    unfolding tag_cut
    tag-started a e = rw (at, e)

  -- the cut in two steps: around the tag, and where nothing follows it, before an ID3v1 block at the end of the audio
  cut-by-tag : cut_of s ≡ cond (ltb (tag_cut s).from (tag_cut s).to) (tag_cut s) (audio_cut s (tag_cut s).front)
  unfolding cut_of tag_cut
  cut-by-tag = go (find_footer s) refl
    where
      begun : (f : ℕ) (at : find_footer s ≡ Some f) (t : Option ℕ) → tag_start s f ≡ t
          → cut_of s ≡ cond (ltb (tag_cut s).from (tag_cut s).to) (tag_cut s) (audio_cut s (tag_cut s).front)
      begun f at (Some a) e = rw (at, e)
      begun f at None e = rw (at, e, le-ltb (length s) (length s) (omega arith))

      go : (x : Option ℕ) → find_footer s ≡ x → cut_of s ≡ cond (ltb (tag_cut s).from (tag_cut s).to) (tag_cut s) (audio_cut s (tag_cut s).front)
      go (Some f) at = begun f at (tag_start s f) refl
      go None e = rw (e, le-ltb (length s) (length s) (omega arith))

  module _ (c : Cut) (is : c ≡ tag_cut s) where
    -- something follows the tag
    pub parts-rest : c.from < c.to → c ≡ cut_of s
    parts-rest h = rw (cut-by-tag, ← is, lt-ltb _ _ h)

    -- nothing does
    pub parts_last : c.to ≤ c.from → audio_cut s c.front ≡ cut_of s
    parts_last h = rw (cut-by-tag, ← is, le-ltb _ _ h)

  -- ---- it leaves the parts that `split` says

  all-audio : CutsAs (moved s []) s (audio_cut s (length s))
  all-audio = rw (take_all (length s) s (omega arith)) at (audio-cuts s (length s) (omega arith))

  split-none : find_footer s ≡ None → split s ≡ moved s []
  unfolding split
  split-none e = rw e

  module _ (f : ℕ) (at : find_footer s ≡ Some f) where
    split-unstarted : tag_start s f ≡ None → split s ≡ moved s []
    unfolding split
    split-unstarted e = rw (at, e)

    split_rest : (a : ℕ) → tag_start s f ≡ Some a → f + 32 < length s → CutsAs (split s) s (cut a (f + 32) (length s))
    unfolding split moved
    split_rest a e h =
        rw (at, e) (go (drop (f + 32) s) refl)
      where
        all : part (f + 32) (length s) s ≡ drop (f + 32) s
        all = take_all (length s - (f + 32)) (drop (f + 32) s) (omega (arith, length-drop (f + 32) s))

        go : (r : List ℕ) → drop (f + 32) s ≡ r → CutsAs (moved (take a s) r) s (cut a (f + 32) (length s))
        go [] q = absurd (omega (arith, length-drop (f + 32) s, ap length q))
        go (b ∷ bs) q = record { front-is = refl; back_is = all ∙ q; front-within = omega (arith, start-within s f a e); order = omega arith; within = omega arith }

    split-last : (a : ℕ) → tag_start s f ≡ Some a → length s ≤ f + 32 → split s ≡ moved (take a s) []
    unfolding split
    split-last a e h = rw (at, e, drop_of_length-le s {i = f + 32} h)

    split_started : (a : ℕ) → tag_start s f ≡ Some a → CutsAs (split s) s (cut_of s)
    split_started a e = go (ltb (f + 32) (length s)) refl
      where
        go : (t : Bool) → ltb (f + 32) (length s) ≡ t → CutsAs (split s) s (cut_of s)
        go true q = let h : f + 32 < length s = ltb-true _ _ q in rw (← cut-rest f at a e h) (split_rest a e h)
        go false q =
            let h : length s ≤ f + 32 = ltb-false _ _ q in
            rw (← cut-last f at a e h, split-last a e h) (audio-cuts s a (omega (arith, start-within s f a e)))

  pub cut-is : CutsAs (split s) s (cut_of s)
  cut-is = go (find_footer s) refl
    where
      begun : (f : ℕ) (at : find_footer s ≡ Some f) (t : Option ℕ) → tag_start s f ≡ t → CutsAs (split s) s (cut_of s)
      begun f at (Some a) e = split_started f at a e
      begun f at None e = rw (← cut-unstarted f at e, split-unstarted f at e) all-audio

      go : (x : Option ℕ) → find_footer s ≡ x → CutsAs (split s) s (cut_of s)
      go (Some f) at = begun f at (tag_start s f) refl
      go None e = rw (← cut-none e, split-none e) all-audio

  -- so does the answer of the code
  pub cuts-as : (c : Cut) → c ≡ cut_of s → CutsAs (split s) s c
  cuts-as c e = rw e cut-is

-- ---- a file of three parts

-- the end of what was written, by another name
pub ended : {out w xs : List ℕ} {k : ℕ} → Wrote out 0 w k xs → (m : ℕ) → k ≡ m → Wrote out 0 w m xs
ended x m e = record { room = x.room; ends = sym e ∙ x.ends; is = x.is }

module _ {s : List ℕ} {front from to : ℕ} (c : Cuts (split s) s front from to) (ts : List Item) where
  -- it is what stands up to `front`, the tag, and what stands between `from` and `to`
  pub replaced-is : replaced s ts ≡ take front s ++ (serialize ts ++ part from to s)
  unfolding replaced file_of
  replaced-is = rw (c.front-is, c.back_is)

  pub replaced-length : length (replaced s ts) ≡ front + length (serialize ts) + (to - from)
  replaced-length =
      ap length replaced-is
      ∙ simp (length-append) (omega (arith, length-take-le front s c.front-within, length_part from to s c.within))
