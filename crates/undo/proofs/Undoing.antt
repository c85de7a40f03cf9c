-- Laws of undo: what is left to be tested where the check is ready, and what dropping the eight keys answers.
use Prim.Native.Nat.{ℕ, ◌≤◌, ◌<◌}
use native.Mathlib.Omega.{arith}
use mathlib.Core.Path.{◌≡◌, refl, sym, ap, ◌∙◌}
use mathlib.Core.Logic.{⊎_elim}
use mathlib.Core.Bool.{Bool, true, false}
use Rattle.std.specs.Prelude.{None, Some, Result, Ok, Err}
use mathlib.Core.List.{List, []}
use lib.ListN.{length}
use borrow.Author.Tests.{le-leb, lt-leb}
use Rattle.lists.specs.Write.{part}
use Rattle.replies.specs.Limits.{count_limit}
use Rattle.replies.specs.Refusal.{no, yes}
use Rattle.replies.specs.declared.Refusal.{Refusal}
use Rattle.replies.specs.declared.Refusal.TheVariants.{NoRoom}
use Rattle.keys.specs.Keys.{is_mp3gain_key, undo_key}
use Rattle.items.specs.Items.{without, is_repeated}
use Rattle.items.proofs.Area.{count-items}
use Rattle.items.proofs.ItemLaws.{count-without, area-without}
use Rattle.ape.specs.Tag.{replaced}
use Rattle.ape.specs.Answers.{has_room}
use Rattle.ape_write.specs.Answers.{written_answer, written_bytes}
use Rattle.ape_replace.specs.Answers.{room_plan}
use Rattle.gate.specs.declared.TagArea.{TagArea}
use Rattle.gate.specs.Gate.{Passed}
use Rattle.gate.proofs.Gates.{short-items}
use Rattle.edit.specs.Finish.{tag_plan}
use Rattle.edit.proofs.Rewriting.{fits-tag}
use Rattle.calls.specs.Gate.{passes_gate, items_of}
use lib.IntN.{ℤ}
use Rattle.checks.specs.Checks.{undo_check}
use Rattle.checks.proofs.Whole.{undone, undo-last}
use Rattle.frame.specs.declared.GainMode.{GainMode}
use Rattle.calls.specs.Calls.{adjusted, is_there, others, undo_plan}

-- ---- what is left to be tested where the check is ready

module _ (file left right : List ℕ) (room : ℕ) {text : List ℕ} (c : undo_check file (is_there left) ≡ yes text) where
  pub undo-5 : has_room room (length (replaced file (others (items_of file)))) ≡ false → undo_plan file left right room ≡ no NoRoom
  undo-5 e = undo-last file left right room c ∙ rw e

  pub undo-done : has_room room (length (replaced file (others (items_of file)))) ≡ true → undo_plan file left right room ≡ yes (undone file left right text)
  undo-done e = undo-last file left right room c ∙ rw e

-- what dropping the eight keys answers, where the file is fit for editing: only room can be lacking
module _ {file : List ℕ} {p : TagArea} (x : Passed file p) (room : ℕ) where
  few : length (items_of file) ≤ count_limit
  few = omega (arith, ap length x.items, count-items p.count (part p.start p.end file) x.good, x.few)

  dropped : tag_plan file (without is_mp3gain_key (items_of file)) room ≡ room_plan file (without is_mp3gain_key (items_of file)) room
  dropped =
      fits-tag file (without is_mp3gain_key (items_of file)) room
      (omega (arith, few, count-without is_mp3gain_key (items_of file)))
      (omega (arith, short-items x, area-without is_mp3gain_key (items_of file)))

  abbrev fits : Bool
  fits = has_room room (length (replaced file (without is_mp3gain_key (items_of file))))

  pub done-fits : {n : ℕ} → Ok n ≡ written_answer (tag_plan file (without is_mp3gain_key (items_of file)) room)
      → (fits ≡ true) × (n ≡ length (replaced file (without is_mp3gain_key (items_of file)))) × (written_bytes (tag_plan file (without is_mp3gain_key (items_of file)) room) ≡ replaced file (without is_mp3gain_key (items_of file)))
  unfolding room_plan
  done-fits {n} e = go fits refl
    where
      go : (b : Bool) → fits ≡ b
          → (fits ≡ true) × (n ≡ length (replaced file (without is_mp3gain_key (items_of file)))) × (written_bytes (tag_plan file (without is_mp3gain_key (items_of file)) room) ≡ replaced file (without is_mp3gain_key (items_of file)))
      go true q =
          let y : Ok n ≡ Ok (length (replaced file (without is_mp3gain_key (items_of file)))) = e ∙ ap written_answer dropped ∙ rw q in
          (q, cc, ap written_bytes dropped ∙ rw q)
      go false q =
          let y : ◌≡◌ {A = Result ℕ Refusal} (Ok n) (Err NoRoom) = e ∙ ap written_answer dropped ∙ rw q in
          absurd (let z : ◌≡◌ {A = ℕ} 0 1 = cc in omega arith)

  pub refused-room : {r : Refusal} → Err r ≡ written_answer (tag_plan file (without is_mp3gain_key (items_of file)) room)
      → (fits ≡ false) × (r ≡ NoRoom) × (written_bytes (tag_plan file (without is_mp3gain_key (items_of file)) room) ≡ [])
  unfolding room_plan
  refused-room {r} e = go fits refl
    where
      go : (b : Bool) → fits ≡ b → (fits ≡ false) × (r ≡ NoRoom) × (written_bytes (tag_plan file (without is_mp3gain_key (items_of file)) room) ≡ [])
      go true q =
          let y : ◌≡◌ {A = Result ℕ Refusal} (Err r) (Ok (length (replaced file (without is_mp3gain_key (items_of file))))) = e ∙ ap written_answer dropped ∙ rw q in
          absurd (let z : ◌≡◌ {A = ℕ} 0 1 = cc in omega arith)
      go false q =
          let y : ◌≡◌ {A = Result ℕ Refusal} (Err r) (Err NoRoom) = e ∙ ap written_answer dropped ∙ rw q in
          (q, cc, ap written_bytes dropped ∙ rw q)

-- gains that were moved by the same number in the same mode
pub moved-alike : (m n : GainMode) (y z : ℤ) (gs : List ℕ) {xs : List ℕ} → xs ≡ adjusted m y gs → m ≡ n → y ≡ z → xs ≡ adjusted n z gs
moved-alike m n y z gs e f g = e ∙ rw (f, g)
