-- Laws of the lengths: the last tests by numbers are those of the plan with an unlimited output.
use Prim.Native.Nat.{ℕ, ◌+◌, ◌-◌, ◌≤◌, ◌<◌}
use native.Mathlib.Omega.{arith}
use mathlib.Core.Path.{◌≡◌, refl, sym, ap, ◌∙◌}
use mathlib.Core.Bool.{Bool, true, false, ◌&&◌}
use Rattle.std.specs.Prelude.{Option, None, Some}
use mathlib.Core.List.{List, [], ◌∷◌}
use lib.ListN.{length, length-append}
use lib.Seq.{length-take-le}
use lib.Dec.{leb}
use borrow.Author.Tests.{ne_eqb, le-leb, lt-leb}
use Rattle.replies.specs.Limits.{file_limit, count_limit, area_limit}
use Rattle.replies.specs.Refusal.{need, refusal_of, no, yes, planned}
use Rattle.replies.specs.declared.Refusal.{Refusal}
use Rattle.replies.specs.declared.Refusal.TheVariants.{NoRoom, TagTooLarge}
use Rattle.items.specs.Items.{Item, area_bytes}
use Rattle.ape.specs.Tag.{tag_bytes, serialize, split, file_of, replaced}
use Rattle.ape.specs.Answers.{room_for}
use Rattle.ape.proofs.Files.{length-block}
use Rattle.ape_write.specs.Answers.{tag_length}
use Rattle.lists.specs.Write.{part}
use Rattle.lists.proofs.Places.{length_part}
use Rattle.ape_replace.specs.Answers.{Cuts}
use Rattle.calls.specs.Gate.{tag_fits}
use Rattle.edit.specs.Finish.{tag_plan}
use Rattle.keys.specs.Keys.{is_mp3gain_key}
use Rattle.items.specs.Items.{without}
use Rattle.items.proofs.Area.{count-items}
use Rattle.items.proofs.ItemLaws.{count-without, area-without}
use Rattle.calls.specs.Gate.{items_of}
use Rattle.calls.specs.Calls.{is_there, others}
use Rattle.gate.specs.declared.TagArea.{TagArea}
use Rattle.gate.specs.Gate.{Passed}
use Rattle.gate.proofs.Gates.{short-items}
use Rattle.calls.specs.Lengths.{unlimited, size_plan, file_length, undo_length}
use Rattle.checks.specs.Checks.{undo_check}
use Rattle.checks.proofs.Whole.{undone, undo-last}
use Rattle.lengths.specs.Sizes.{sized, last_length}

length-serialize : (ts : List Item) → length (serialize ts) ≡ tag_length (length (area_bytes ts)) (length ts)
unfolding serialize tag_bytes
length-serialize [] = refl
length-serialize (t ∷ ts) = rw (ne_eqb (length (t ∷ ts)) 0 (λ z. omega arith)) (simp (length-append, length-block) (omega arith))

pub length-replaced : (file : List ℕ) (ts : List Item) → length (replaced file ts) ≡ sized file (length (area_bytes ts)) (length ts)
unfolding replaced file_of sized
length-replaced file ts = simp length-append (omega (arith, length-serialize ts))

-- by the places where the file is cut
pub sized-cut : {s : List ℕ} {front from to : ℕ} → Cuts (split s) s front from to → (bytes count : ℕ)
    → sized s bytes count ≡ front + tag_length bytes count + (to - from)
unfolding sized
sized-cut {s} {front} {from} {to} c bytes count =
    rw (← c.front-is, ← c.back_is, length-take-le front s c.front-within, length_part from to s c.within)

-- a result planned by a test, and then measured
measured : {A : Type 0} (size : A → ℕ) (o : Option Refusal) (x : A) → size_plan size (planned o x) ≡ planned o (size x)
measured size None x = refl
measured size (Some r) x = refl

same-twice : (b : Bool) → (b && b) ≡ b
same-twice true = refl
same-twice false = refl

-- the last tests by numbers are those of the call with an unlimited output
pub last-is : {A : Type 0} (size : A → ℕ) (file : List ℕ) (ts : List Item) (x : A) → size x ≡ length (replaced file ts)
    → last_length file (length (area_bytes ts)) (length ts)
    ≡ size_plan size (planned (refusal_of (need TagTooLarge (tag_fits ts) ∷ room_for unlimited (replaced file ts) ∷ [])) x)
unfolding last_length tag_fits
last-is size file ts x e =
    sym (measured size (refusal_of (need TagTooLarge (tag_fits ts) ∷ room_for unlimited (replaced file ts) ∷ [])) x
    ∙ rw (e, same-twice (leb (length (replaced file ts)) file_limit), length-replaced file ts))

-- of set and remove
pub tag_is : (file : List ℕ) (ts : List Item) → last_length file (length (area_bytes ts)) (length ts) ≡ size_plan length (tag_plan file ts unlimited)
unfolding tag_plan
tag_is file ts = last-is length file ts (replaced file ts) refl

module _ (file : List ℕ) (bytes count : ℕ) where
  pub too_many : count_limit < count → last_length file bytes count ≡ no TagTooLarge
  unfolding last_length
  too_many h = rw (lt-leb _ _ h)

  module _ (few : count ≤ count_limit) where
    pub too_long : area_limit < bytes → last_length file bytes count ≡ no TagTooLarge
    unfolding last_length
    too_long h = rw (le-leb _ _ few, lt-leb _ _ h)

    module _ (small : bytes ≤ area_limit) where
      pub no_room : file_limit < sized file bytes count → last_length file bytes count ≡ no NoRoom
      unfolding last_length
      no_room h = rw (le-leb _ _ few, le-leb _ _ small, lt-leb _ _ h)

      pub fits : sized file bytes count ≤ file_limit → last_length file bytes count ≡ yes (sized file bytes count)
      unfolding last_length
      fits h = rw (le-leb _ _ few, le-leb _ _ small, le-leb _ _ h)

-- the last test of undo: what is left of items that fit, fits
module _ (file left right : List ℕ) {p : TagArea} (x : Passed file p) where
  few : length (without is_mp3gain_key (items_of file)) ≤ count_limit
  few = omega (arith, ap length x.items, count-items p.count (part p.start p.end file) x.good, x.few, count-without is_mp3gain_key (items_of file))

  small : length (area_bytes (without is_mp3gain_key (items_of file))) ≤ area_limit
  small = omega (arith, short-items x, area-without is_mp3gain_key (items_of file))

  pub undo-is : {text : List ℕ} → undo_check file (is_there left) ≡ yes text
      → undo_length file left right ≡ last_length file (length (area_bytes (without is_mp3gain_key (items_of file)))) (length (without is_mp3gain_key (items_of file)))
  unfolding undo_length others last_length
  undo-is {text} e =
      ap (size_plan file_length) (undo-last file left right unlimited e)
      ∙ measured file_length (refusal_of (room_for unlimited (replaced file (without is_mp3gain_key (items_of file))) ∷ [])) (undone file left right text)
      ∙ rw (same-twice (leb (length (replaced file (without is_mp3gain_key (items_of file)))) file_limit), length-replaced file (without is_mp3gain_key (items_of file)), le-leb _ _ few, le-leb _ _ small)
