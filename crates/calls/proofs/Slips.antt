-- Laws of level by a slip, and of the mode that a slip does not name.
use Prim.Native.Nat.{ℕ}
use native.Mathlib.Omega.{arith}
use mathlib.Core.Path.{◌≡◌, refl, sym, ◌∙◌}
use mathlib.Core.Bool.{Bool, true, false}
use Rattle.std.specs.Prelude.{Option, None, Some}
use mathlib.Core.List.{List, [], ◌∷◌}
use lib.IntN.{ℤ}
use lib.ListN.{length}
use lib.Dec.{leb}
use Rattle.lists.specs.Choice.{found}
use Rattle.replies.specs.Limits.{file_limit}
use Rattle.replies.specs.Refusal.{Test, need, refusal_of, Plan, no, planned}
use Rattle.replies.specs.declared.Refusal.{Refusal}
use Rattle.replies.specs.declared.Refusal.TheVariants.{FileTooLong, StepOutOfRange, NoLeftGains, NotEditable, SecondUndo, FlagDiffers, UndoOutOfRange, TagTooLarge, NoRoom}
use Rattle.frame.specs.declared.GainMode.{GainMode}
use Rattle.frame.specs.declared.GainMode.TheVariants.{Wrapping}
use Rattle.frame.specs.Gain.{mode_of}
use Rattle.keys.specs.Keys.{undo_key}
use Rattle.values.specs.Undo.{undo_wraps}
use Rattle.slip.specs.declared.Wish.{Wish}
use Rattle.slip.specs.Slip.{slip_form}
use Rattle.items.specs.Items.{Item, is_repeated}
use Rattle.ape.specs.Answers.{has_room}
use Rattle.ape.specs.Tag.{replaced}
use Rattle.calls.specs.Gate.{passes_gate, items_of, tag_fits}
use Rattle.calls.specs.Calls.{Level, Levelled, stored_undo, undo_once, agrees, resolved, booked, numbers_fit, steps_fit, is_there, new_items, level_gives, level_plan, asked, slip_plan}

-- ---- a slip with a written line is obeyed

pub line-obeyed : (slip file left right : List ℕ) (room : ℕ) (w : Wish) (m : GainMode) → slip_form slip ≡ Some w → w.mode ≡ Some m
    → slip_plan slip file left right room ≡ level_plan file left right (record { left = w.left.0; right = w.right.0; mode = m }) room
unfolding slip_plan resolved
line-obeyed slip file left right room w m e n = rw (e, n)

-- ---- a slip without the line does not meet refusal 9

pub unnamed-agrees : (ts : List Item) → found (stored_undo ts) true (agrees (resolved None ts)) ≡ true
unfolding resolved
unnamed-agrees ts = go (stored_undo ts) refl
  where
    flag : (s : List ℕ) (b : Bool) → undo_wraps s ≡ b → agrees (mode_of b) s ≡ true
    flag s true e = e
    flag s false e = rw e

    go : (o : Option (List ℕ)) → stored_undo ts ≡ o → found o true (agrees (found o Wrapping (λ s. mode_of (undo_wraps s)))) ≡ true
    go None e = refl
    go (Some s) e = flag s (undo_wraps s) refl

-- level's tests, by what they find
abbrev tests : Bool → Bool → Bool → Bool → Bool → Bool → Bool → Bool → Bool → Option Refusal
tests short steps gains fit once flag small fits room =
    refusal_of
    (need FileTooLong short ∷ need StepOutOfRange steps ∷ need NoLeftGains gains ∷ need NotEditable fit ∷ need SecondUndo once ∷ need FlagDiffers flag
    ∷ need UndoOutOfRange small ∷ need TagTooLarge fits ∷ need NoRoom room ∷ [])

-- where the flag agrees, another one than 9 is given
not-nine : (a b c d e f g h : Bool) (x : Levelled) → planned (tests a b c d e true f g h) x ≡ no FlagDiffers → ⊥
not-nine false b c d e f g h x q = let z : ◌≡◌ {A = ℕ} 0 1 = cc in omega arith
not-nine true false c d e f g h x q = let z : ◌≡◌ {A = ℕ} 0 1 = cc in omega arith
not-nine true true false d e f g h x q = let z : ◌≡◌ {A = ℕ} 0 1 = cc in omega arith
not-nine true true true false e f g h x q = let z : ◌≡◌ {A = ℕ} 0 1 = cc in omega arith
not-nine true true true true false f g h x q = let z : ◌≡◌ {A = ℕ} 0 1 = cc in omega arith
not-nine true true true true true false g h x q = let z : ◌≡◌ {A = ℕ} 0 1 = cc in omega arith
not-nine true true true true true true false h x q = let z : ◌≡◌ {A = ℕ} 0 1 = cc in omega arith
not-nine true true true true true true true false x q = let z : ◌≡◌ {A = ℕ} 0 1 = cc in omega arith
not-nine true true true true true true true true x q = let z : ◌≡◌ {A = ℕ} 0 1 = cc in omega arith

-- level, by whether the undo key is there once and whether its flag agrees
module _ (file left right : List ℕ) (room : ℕ) (l : Level) where
  abbrev level_by : Bool → Bool → Plan Levelled
  level_by once flag =
      planned
      (tests (leb (length file) file_limit) (steps_fit l) (is_there left) (passes_gate file) once flag (numbers_fit (booked l (items_of file)))
      (tag_fits (new_items file left right l)) (has_room room (length (replaced file (new_items file left right l)))))
      (level_gives file left right l)

  level-by : (once flag : Bool) → undo_once (items_of file) ≡ once → found (stored_undo (items_of file)) true (agrees l.mode) ≡ flag
      → level_plan file left right l room ≡ level_by once flag
  unfolding level_plan
  level-by once flag o f = rw (o, f)

pub unnamed-not-nine : (slip file left right : List ℕ) (room : ℕ) (w : Wish) → slip_form slip ≡ Some w → w.mode ≡ None → slip_plan slip file left right room ≡ no FlagDiffers → ⊥
unfolding slip_plan
unnamed-not-nine slip file left right room w e n q =
    let l = asked w file in
    let p : level_plan file left right l room ≡ no FlagDiffers = rw e at q in
    let agreed : found (stored_undo (items_of file)) true (agrees l.mode) ≡ true = rw n (unnamed-agrees (items_of file)) in
    not-nine
    (leb (length file) file_limit)
    (steps_fit l)
    (is_there left)
    (passes_gate file)
    (undo_once (items_of file))
    (numbers_fit (booked l (items_of file)))
    (tag_fits (new_items file left right l))
    (has_room room (length (replaced file (new_items file left right l))))
    (level_gives file left right l)
    (sym (level-by file left right room l (undo_once (items_of file)) true refl agreed) ∙ p)

-- ---- where there is a second undo item, the mode does not matter: the same refusal is given, 14 or an earlier one

second : (a b c d e f g h e' f' g' h' : Bool) (x y : Levelled) → planned (tests a b c d false e f g h) x ≡ planned (tests a b c d false e' f' g' h') y
second false b c d e f g h e' f' g' h' x y = refl
second true false c d e f g h e' f' g' h' x y = refl
second true true false d e f g h e' f' g' h' x y = refl
second true true true false e f g h e' f' g' h' x y = refl
second true true true true e f g h e' f' g' h' x y = refl

pub second-undo : (file left right : List ℕ) (room : ℕ) (l r : ℤ) (m n : GainMode) → is_repeated undo_key (items_of file) ≡ true
    → level_plan file left right (record { left = l; right = r; mode = m }) room ≡ level_plan file left right (record { left = l; right = r; mode = n }) room
second-undo file left right room l r m n e =
    let a : Level = record { left = l; right = r; mode = m } in
    let b : Level = record { left = l; right = r; mode = n } in
    let ts = items_of file in
    let once : undo_once ts ≡ false = rw e in
    level-by file left right room a false (found (stored_undo ts) true (agrees m)) once refl
    ∙ second
    (leb (length file) file_limit)
    (steps_fit a)
    (is_there left)
    (passes_gate file)
    (found (stored_undo ts) true (agrees m))
    (numbers_fit (booked a ts))
    (tag_fits (new_items file left right a))
    (has_room room (length (replaced file (new_items file left right a))))
    (found (stored_undo ts) true (agrees n))
    (numbers_fit (booked b ts))
    (tag_fits (new_items file left right b))
    (has_room room (length (replaced file (new_items file left right b))))
    (level_gives file left right a)
    (level_gives file left right b)
    ∙ sym (level-by file left right room b false (found (stored_undo ts) true (agrees n)) once refl)
