-- A length is the room that its call needs.
use Prim.Native.Nat.{ℕ, ◌≤◌, ◌<◌}
use native.Mathlib.Omega.{arith}
use mathlib.Core.Path.{◌≡◌, refl, sym, ap, ◌∙◌}
use mathlib.Core.Logic.{◌⊎◌, inl, inr, ⊎_elim}
use mathlib.Core.Bool.{Bool, true, false, ◌&&◌}
use Rattle.std.specs.Prelude.{Option, None, Some}
use mathlib.Core.List.{List, [], ◌∷◌}
use lib.ListN.{length}
use lib.Dec.{leb}
use borrow.Author.Tests.{le-leb, lt-leb, leb-true, leb-false}
use Rattle.lists.specs.Choice.{found, is_some}
use Rattle.replies.specs.Limits.{file_limit}
use Rattle.replies.specs.Refusal.{need, refusal_of, Plan, no, yes, planned}
use Rattle.replies.specs.declared.Refusal.{Refusal}
use Rattle.replies.specs.declared.Refusal.TheVariants.{
  FileTooLong,
  StepOutOfRange,
  BadKey,
  NotUtf8,
  NoRoom,
  TagTooLarge,
  NoLeftGains,
  NotEditable,
  FlagDiffers,
  NoUndo,
  UndoOutOfRange,
  MalformedSlip,
  SecondUndo,
}
use Rattle.utf8.specs.Utf8.{valid}
use Rattle.keys.specs.Keys.{is_key}
use Rattle.slip.specs.declared.Wish.{Wish}
use Rattle.slip.specs.Slip.{slip_form}
use Rattle.items.specs.Items.{Item, set_item, remove_item}
use Rattle.ape.specs.Tag.{replaced}
use Rattle.ape.specs.Answers.{has_room}
use Rattle.calls.specs.Gate.{passes_gate, items_of, tag_fits}
use Rattle.calls.specs.Calls.{
  set_plan,
  remove_plan,
  Level,
  Levelled,
  stored_undo,
  undo_once,
  agrees,
  booked,
  numbers_fit,
  new_items,
  is_there,
  steps_fit,
  level_gives,
  level_plan,
  asked,
  slip_plan,
  others,
  undo_gives,
  undo_plan,
}
use Rattle.calls.specs.Lengths.{unlimited, size_plan, file_length, Foretells}

-- ---- a call that tests its room last

-- done with room and refused with 5 without; or refused by a test before, whatever the room
data Last {A : Type 0} (call : Bool → Plan A) (a : A) : Type 0 where
  by-room : call true ≡ yes a → call false ≡ no NoRoom → Last call a
  before : (r : Refusal) → ((ok : Bool) → call ok ≡ no r) → Last call a

never : {A B : Type 0} (r : Refusal) (a : A) → ◌≡◌ {A = Plan A} (no r) (yes a) → B
never r a e = absurd (let z : ◌≡◌ {A = ℕ} 0 1 = cc in omega arith)

module _ {A : Type 0} (size : A → ℕ) (call : Bool → Plan A) (a : A) where
  abbrev lent : ℕ → Plan A
  lent room = call (has_room room (size a))

  -- a room of n bytes holds n, where a file may have n
  room_for : (n room : ℕ) → n ≤ file_limit → n ≤ room → has_room room n ≡ true
  room_for n room f h = rw (le-leb n room h, le-leb n file_limit f)

  too_short : (n room : ℕ) → room < n → has_room room n ≡ false
  too_short n room h = rw (lt-leb n room h)

  too_long : (n room : ℕ) → file_limit < n → has_room room n ≡ false
  too_long n room h = go (leb n room) refl
    where
      go : (b : Bool) → leb n room ≡ b → has_room room n ≡ false
      go true e = rw (e, lt-leb n file_limit h)
      go false e = rw e

  by-its-room : call true ≡ yes a → call false ≡ no NoRoom → Foretells size lent
  by-its-room t f = go (leb (size a) file_limit) refl
    where
      go : (b : Bool) → leb (size a) file_limit ≡ b → Foretells size lent
      go true e =
          let s : size a ≤ file_limit = leb-true (size a) file_limit e in
          let u : lent unlimited ≡ yes a = ap call (room_for (size a) file_limit s s) ∙ t in
          let is : (n : ℕ) → size_plan size (lent unlimited) ≡ yes n → n ≡ size a = λ n q. let z : yes (size a) ≡ yes n = ap (size_plan size) (sym u) ∙ q in cc in
          record {
            enough = λ n q room h. let z = is n q in ap call (room_for (size a) room s (omega arith)) ∙ t ∙ sym u;
            short = λ n q room h. let z = is n q in ap call (too_short (size a) room (omega arith)) ∙ f;
            refused = λ r q room. never r (size a) (sym (ap (size_plan size) (sym u) ∙ q));
          }
      go false e =
          let s : file_limit < size a = leb-false (size a) file_limit e in
          let u : (room : ℕ) → lent room ≡ no NoRoom = λ room. ap call (too_long (size a) room s) ∙ f in
          record {
            enough = λ n q room h. u room ∙ sym (u unlimited);
            short = λ n q room h. u room;
            refused = λ r q room. u room ∙ (let z : ◌≡◌ {A = Plan ℕ} (no NoRoom) (no r) = ap (size_plan size) (sym (u unlimited)) ∙ q in let y : NoRoom ≡ r = cc in ap no y);
          }

  foretold : Last call a → Foretells size lent
  foretold (by-room t f) = by-its-room t f
  foretold (before r e) = record {
    enough = λ n q room h. e (has_room room (size a)) ∙ sym (e (has_room unlimited (size a)));
    short = λ n q room h. never r n (ap (size_plan size) (sym (e (has_room unlimited (size a)))) ∙ q);
    refused = λ s q room. e (has_room room (size a)) ∙ (let z : ◌≡◌ {A = Plan ℕ} (no r) (no s) = ap (size_plan size) (sym (e (has_room unlimited (size a)))) ∙ q in let y : r ≡ s = cc in ap no y);
  }

-- ---- set and remove

set_last : (a b c d e : Bool) (w : List ℕ)
    → Last (λ ok. planned (refusal_of (need FileTooLong a ∷ need BadKey b ∷ need NotUtf8 c ∷ need NotEditable d ∷ need TagTooLarge e ∷ need NoRoom ok ∷ [])) w) w
set_last false b c d e w = before FileTooLong (λ ok. refl)
set_last true false c d e w = before BadKey (λ ok. refl)
set_last true true false d e w = before NotUtf8 (λ ok. refl)
set_last true true true false e w = before NotEditable (λ ok. refl)
set_last true true true true false w = before TagTooLarge (λ ok. refl)
set_last true true true true true w = by-room refl refl

pub set-foretold : (file key value : List ℕ) → Foretells length (set_plan file key value)
unfolding set_plan
set-foretold file key value =
    let new = set_item key value (items_of file) in
    foretold length _ (replaced file new) (set_last (leb (length file) file_limit) (is_key key) (valid value) (passes_gate file) (tag_fits new) (replaced file new))

remove-last : (a b d e : Bool) (w : List ℕ)
    → Last (λ ok. planned (refusal_of (need FileTooLong a ∷ need BadKey b ∷ need NotEditable d ∷ need TagTooLarge e ∷ need NoRoom ok ∷ [])) w) w
remove-last false b d e w = before FileTooLong (λ ok. refl)
remove-last true false d e w = before BadKey (λ ok. refl)
remove-last true true false e w = before NotEditable (λ ok. refl)
remove-last true true true false w = before TagTooLarge (λ ok. refl)
remove-last true true true true w = by-room refl refl

pub remove-foretold : (file key : List ℕ) → Foretells length (remove_plan file key)
unfolding remove_plan
remove-foretold file key =
    let new = remove_item key (items_of file) in
    foretold length _ (replaced file new) (remove-last (leb (length file) file_limit) (is_key key) (passes_gate file) (tag_fits new) (replaced file new))

-- ---- level, level by a slip, and undo

level-last : (a b c d e f g h : Bool) (x : Levelled)
    → Last (λ ok. planned (refusal_of (
    need FileTooLong a ∷ need StepOutOfRange b ∷ need NoLeftGains c ∷ need NotEditable d ∷ need SecondUndo e ∷ need FlagDiffers f
    ∷ need UndoOutOfRange g ∷ need TagTooLarge h ∷ need NoRoom ok ∷ [])) x) x
level-last false b c d e f g h x = before FileTooLong (λ ok. refl)
level-last true false c d e f g h x = before StepOutOfRange (λ ok. refl)
level-last true true false d e f g h x = before NoLeftGains (λ ok. refl)
level-last true true true false e f g h x = before NotEditable (λ ok. refl)
level-last true true true true false f g h x = before SecondUndo (λ ok. refl)
level-last true true true true true false g h x = before FlagDiffers (λ ok. refl)
level-last true true true true true true false h x = before UndoOutOfRange (λ ok. refl)
level-last true true true true true true true false x = before TagTooLarge (λ ok. refl)
level-last true true true true true true true true x = by-room refl refl

pub level-foretold : (file left right : List ℕ) (l : Level) → Foretells file_length (level_plan file left right l)
unfolding level_plan
level-foretold file left right l =
    foretold file_length _ (level_gives file left right l) (
    level-last (leb (length file) file_limit) (steps_fit l) (is_there left) (passes_gate file) (undo_once (items_of file)) (found (stored_undo (items_of file)) true (agrees l.mode))
    (numbers_fit (booked l (items_of file))) (tag_fits (new_items file left right l)) (level_gives file left right l))

pub slip-foretold : (slip file left right : List ℕ) → Foretells file_length (slip_plan slip file left right)
unfolding slip_plan
slip-foretold slip file left right = go (slip_form slip)
  where
    go : (o : Option Wish) → Foretells file_length (λ room. found o (no MalformedSlip) (λ w. level_plan file left right (asked w file) room))
    go None = record { enough = λ n q room h. refl; short = λ n q room h. never MalformedSlip n q; refused = λ r q room. let y : MalformedSlip ≡ r = cc in ap no y }
    go (Some w) = level-foretold file left right (asked w file)

undo-last : (a c d e f : Bool) (x : Levelled)
    → Last (λ ok. planned (refusal_of (need FileTooLong a ∷ need NoLeftGains c ∷ need NotEditable d ∷ need SecondUndo e ∷ need NoUndo f ∷ need NoRoom ok ∷ [])) x) x
undo-last false c d e f x = before FileTooLong (λ ok. refl)
undo-last true false d e f x = before NoLeftGains (λ ok. refl)
undo-last true true false e f x = before NotEditable (λ ok. refl)
undo-last true true true false f x = before SecondUndo (λ ok. refl)
undo-last true true true true false x = before NoUndo (λ ok. refl)
undo-last true true true true true x = by-room refl refl

pub undo-foretold : (file left right : List ℕ) → Foretells file_length (undo_plan file left right)
unfolding undo_plan
undo-foretold file left right =
    foretold file_length _ (undo_gives file left right) (
    undo-last (leb (length file) file_limit) (is_there left) (passes_gate file) (undo_once (items_of file)) (is_some (stored_undo (items_of file))) (undo_gives file left right))
