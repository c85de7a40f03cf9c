-- Laws of `place_in`: by the tests of the code, and that its places are those of the audio end and of what follows.
use Rattle.std.specs.Prelude.{Option, None, Some}
use Prim.Native.Nat.{ℕ, ◌+◌, ◌-◌, ◌≤◌, ◌<◌}
use native.Mathlib.Omega.{arith}
use mathlib.Core.Path.{◌≡◌, refl, sym, ap, ◌∙◌}
use mathlib.Core.Bool.{Bool, true, false, not, ◌&&◌, cond}
use mathlib.Core.List.{List, []}
use lib.ListN.{length, take}
use lib.Seq.{length-take-le}
use lib.Dec.{leb}
use borrow.Author.Tests.{leb-true, leb-false, le-leb, lt-leb}
use Rattle.lists.specs.Write.{part}
use Rattle.frame.specs.Tail.{preamble, stands_at, ends_with_id3v1, tag_start}
use Rattle.frame.proofs.Tails.{start-within}
use Rattle.ape.specs.Tag.{find_footer, split}
use Rattle.ape.proofs.Files.{footer-within}
use Rattle.ape_replace.specs.Answers.{cut, audio_cut, Cuts}
use Rattle.ape_replace.proofs.Cutting.{audio-plain, tag-none, tag-unstarted, tag-started, parts-rest, parts_last, cuts-as}
use Rattle.tail_write.specs.Rewrite.{tagless, start_in, block_before}
use Rattle.tail_write.specs.Answers.{bare_of, place_in, Places}
use Rattle.tail_write.specs.declared.Place.{Place}

-- such a place
abbrev pub PlacesAs : List ℕ → Place → Type 0
PlacesAs s p = Places s p.tagged p.end p.from p.to

-- a footer stands at most 160 bytes before the end
footer-near : (s : List ℕ) (f : ℕ) → find_footer s ≡ Some f → length s ≤ f + 160
unfolding find_footer
footer-near s f e = go (stands_at 32 preamble s) (stands_at 160 preamble s && ends_with_id3v1 s) e
  where
    go : (a b : Bool) → cond a (Some (length s - 32)) (cond b (Some (length s - 160)) None) ≡ Some f → length s ≤ f + 160
    go true b e = let q : length s - 32 ≡ f = cc in omega arith
    go false true e = let q : length s - 160 ≡ f = cc in omega arith
    go false false e = absurd (let z : ◌≡◌ {A = ℕ} 0 1 = cc in omega arith)

-- what follows audio that ends here is at most an ID3v1 block
audio-few : (s : List ℕ) (end : ℕ) → (audio_cut s end).to ≤ (audio_cut s end).from + 128
unfolding audio_cut
audio-few s end = go (ends_with_id3v1 (take end s))
  where
    go : (t : Bool) → (cond t (cut (end - 128) (end - 128) end) (cut end end end)).to ≤ (cond t (cut (end - 128) (end - 128) end) (cut end end end)).from + 128
    go true = omega arith
    go false = omega arith

-- nothing stands between a place and itself, or one before it
part_none : (from to : ℕ) (s : List ℕ) → to ≤ from → part from to s ≡ []
part_none from to s h = let z : to - from ≡ 0 = omega arith in rw z

module _ (s : List ℕ) where
  -- where the audio ends as in replacement
  as-split : (tagged : Bool) {front from to : ℕ} → Cuts (split s) s front from to → block_before s ≡ false → tagless s ≡ not tagged → to ≤ from + 128
      → Places s tagged front from to
  as-split tagged {front} c b t h =
      record {
        tagged_is = t;
        end_is = rw b (ap length (sym c.front-is) ∙ length-take-le front s c.front-within);
        behind-is = rw b c.back_is;
        end-within = c.front-within;
        order = c.order;
        within = c.within;
        few = h;
      }

  -- ---- no tag: all is audio

  pub place_none : find_footer s ≡ None → bare_of (audio_cut s (length s)) ≡ place_in s
  unfolding place_in
  place_none e = rw e

  none_is : find_footer s ≡ None → PlacesAs s (bare_of (audio_cut s (length s)))
  unfolding tagless block_before
  none_is e = as-split false (cuts-as s (audio_cut s (length s)) (parts_last s (cut (length s) (length s) (length s)) (tag-none s e) (omega arith))) (rw e) (rw e) (audio-few s (length s))

  module _ (f : ℕ) (at : find_footer s ≡ Some f) where
    pub place-unstarted : tag_start s f ≡ None → bare_of (audio_cut s (length s)) ≡ place_in s
    unfolding place_in
    place-unstarted e = rw (at, e)

    unstarted-is : tag_start s f ≡ None → PlacesAs s (bare_of (audio_cut s (length s)))
    unfolding tagless block_before
    unstarted-is e = as-split false (cuts-as s (audio_cut s (length s)) (parts_last s (cut (length s) (length s) (length s)) (tag-unstarted s f at e) (omega arith))) (rw (at, e)) (rw (at, e)) (audio-few s (length s))

    -- ---- a tag

    module _ (a : ℕ) (e : tag_start s f ≡ Some a) where
      -- the place as the code makes it
      abbrev pub here : Place
      here = record { tagged = true; end = a; from = f + 32; to = length s }

      pub place-tagged : here ≡ place_in s
      unfolding place_in
      place-tagged = rw (at, e)

      tagged_is : tagless s ≡ false
      unfolding tagless
      tagged_is = rw (at, e)

      before-is : block_before s ≡ (leb (length s) (f + 32) && ends_with_id3v1 (take a s))
      unfolding block_before
      before-is = rw (at, e)

      start_is : start_in s ≡ a
      unfolding start_in
      start_is = rw (at, e)

      -- something follows the footer
      rest-is : f + 32 < length s → PlacesAs s here
      rest-is h =
          as-split true (cuts-as s (cut a (f + 32) (length s)) (parts-rest s (cut a (f + 32) (length s)) (tag-started s f at a e) h)) (before-is ∙ rw (lt-leb _ _ h)) tagged_is (omega (arith, footer-near s f at))

      -- nothing does: an ID3v1 block before the tag stays there
      last-is : length s ≤ f + 32 → PlacesAs s here
      last-is h = go (ends_with_id3v1 (take a s)) refl
        where
          in-file : a ≤ length s
          in-file = omega (arith, start-within s f a e)

          foot : f + 32 ≤ length s
          foot = footer-within s f at

          go : (t : Bool) → ends_with_id3v1 (take a s) ≡ t → PlacesAs s here
          go true q =
              let b : block_before s ≡ true = before-is ∙ rw (le-leb _ _ h, q) in
              record {
                tagged_is = tagged_is;
                end_is = rw b start_is;
                behind-is = rw b (part_none (f + 32) (length s) s h);
                end-within = in-file;
                order = foot;
                within = omega arith;
                few = omega arith;
              }
          go false q =
              let b : block_before s ≡ false = before-is ∙ rw (le-leb _ _ h, q) in
              let c = as-split true (cuts-as s (cut a a a) (audio-plain s a q ∙ parts_last s (cut a (f + 32) (length s)) (tag-started s f at a e) h)) b tagged_is (omega arith) in
              record {
                tagged_is = tagged_is;
                end_is = c.end_is;
                behind-is = part_none (f + 32) (length s) s h ∙ sym (part_none a a s (omega arith)) ∙ c.behind-is;
                end-within = in-file;
                order = foot;
                within = omega arith;
                few = omega arith;
              }

      started-is : PlacesAs s here
      started-is = go (leb (length s) (f + 32)) refl
        where
          go : (t : Bool) → leb (length s) (f + 32) ≡ t → PlacesAs s here
          go true q = last-is (leb-true _ _ q)
          go false q = rest-is (leb-false _ _ q)

  -- THE law: the places that the code answers
  pub place_is : PlacesAs s (place_in s)
  place_is = go (find_footer s) refl
    where
      begun : (f : ℕ) (at : find_footer s ≡ Some f) (t : Option ℕ) → tag_start s f ≡ t → PlacesAs s (place_in s)
      begun f at (Some a) e = rw (← place-tagged f at a e) (started-is f at a e)
      begun f at None e = rw (← place-unstarted f at e) (unstarted-is f at e)

      go : (x : Option ℕ) → find_footer s ≡ x → PlacesAs s (place_in s)
      go (Some f) at = begun f at (tag_start s f) refl
      go None e = rw (← place_none e) (none_is e)

  -- so are those that it hands back
  pub places-as : (p : Place) → p ≡ place_in s → PlacesAs s p
  places-as p e = rw e place_is
