-- From a check to the whole call: a refusal of the check is the call's, and where it is ready only the new file decides.
use Prim.Native.Nat.{ℕ, ◌≤◌}
use native.Mathlib.Omega.{arith}
use mathlib.Core.Path.{◌≡◌, refl, sym, ap, ◌∙◌}
use mathlib.Core.Bool.{Bool, true, false}
use Rattle.std.specs.Prelude.{Option, None, Some, unwrap_or, Result, Ok, Err}
use mathlib.Core.List.{List, [], ◌∷◌}
use lib.ListN.{length}
use lib.Dec.{leb, ltb}
use borrow.Author.Tests.{leb-true, lt-ltb}
use Rattle.lists.specs.Choice.{found, is_some}
use Rattle.replies.specs.Limits.{file_limit}
use Rattle.replies.specs.Refusal.{Plan, no, yes, Test, need, refusal_of, planned}
use Rattle.replies.specs.declared.Refusal.{Refusal}
use Rattle.replies.specs.declared.Refusal.TheVariants.{FileTooLong, StepOutOfRange, NoRoom, TagTooLarge, NoLeftGains, NotEditable, FlagDiffers, NoUndo, UndoOutOfRange, SecondUndo}
use Rattle.values.specs.declared.UndoValues.{UndoValues}
use Rattle.ape.specs.Tag.{replaced}
use Rattle.ape.specs.Answers.{has_room, room_for}
use Rattle.calls.specs.Gate.{passes_gate, items_of, tag_fits}
use Rattle.calls.specs.Calls.{Level, Levelled, stored_undo, undo_once, agrees, booked, numbers_fit, new_items, is_there, steps_fit, level_checks, level_gives, level_plan, others, undone_left, undone_right, undo_checks, undo_gives, undo_plan}
use Rattle.gate.specs.Gate.{area_place, gate_of, Passed}
use Rattle.gate.proofs.Gates.{gate-passed}
use Rattle.checks.specs.declared.LevelReady.{LevelReady}
use Rattle.checks.specs.declared.UndoReady.{UndoReady}
use Rattle.checks.specs.Stored.{said}
use Rattle.checks.specs.Checks.{level_check, level_check_answer, undo_check, undo_check_answer}

-- ---- plans

-- a plan that is done has passed its tests
pub done : {A : Type 0} (o : Option Refusal) (v : A) {u : A} → planned o v ≡ yes u → (o ≡ None) × (u ≡ v)
done None v e = (refl, cc)
done (Some r) v e = absurd (let z : ◌≡◌ {A = ℕ} 0 1 = cc in omega arith)

-- one that is refused has that refusal
pub refused : {A : Type 0} (o : Option Refusal) (v : A) {r : Refusal} → planned o v ≡ no r → o ≡ Some r
refused None v e = absurd (let z : ◌≡◌ {A = ℕ} 0 1 = cc in omega arith)
refused (Some q) v {r} e = let z : q ≡ r = cc in rw z

-- whether there are gains, as code asks
pub any-is : (gs : List ℕ) → ltb 0 (length gs) ≡ is_there gs
any-is [] = refl
any-is (g ∷ gs) = lt-ltb 0 (length (g ∷ gs)) (omega arith)

-- ---- the tests of level, in two parts

module _ (a b c d once flag small fits room : Bool) where
  abbrev first : List Test
  first =
      need FileTooLong a ∷ need StepOutOfRange b ∷ need NoLeftGains c ∷ need NotEditable d ∷ need SecondUndo once ∷ need FlagDiffers flag
      ∷ need UndoOutOfRange small ∷ []

  abbrev all : List Test
  all =
      need FileTooLong a ∷ need StepOutOfRange b ∷ need NoLeftGains c ∷ need NotEditable d ∷ need SecondUndo once ∷ need FlagDiffers flag
      ∷ need UndoOutOfRange small ∷ need TagTooLarge fits ∷ need NoRoom room ∷ []

level-parts : (a b c d once flag small fits room : Bool) (o : Option Refusal) → refusal_of (first a b c d once flag small fits room) ≡ o
    → refusal_of (all a b c d once flag small fits room) ≡ found o (refusal_of (need TagTooLarge fits ∷ need NoRoom room ∷ [])) Some
level-parts false b c d once flag small fits room o e = rw (← e)
level-parts true false c d once flag small fits room o e = rw (← e)
level-parts true true false d once flag small fits room o e = rw (← e)
level-parts true true true false once flag small fits room o e = rw (← e)
level-parts true true true true false flag small fits room o e = rw (← e)
level-parts true true true true true false small fits room o e = rw (← e)
level-parts true true true true true true false fits room o e = rw (← e)
level-parts true true true true true true true fits room o e = rw (← e)

-- the file and its tag pass, where the first part does
level-held : (a b c d once flag small fits room : Bool) → refusal_of (first a b c d once flag small fits room) ≡ None → (a ≡ true) × (d ≡ true)
level-held false b c d once flag small fits room e = absurd (let z : ◌≡◌ {A = ℕ} 0 1 = cc in omega arith)
level-held true false c d once flag small fits room e = absurd (let z : ◌≡◌ {A = ℕ} 0 1 = cc in omega arith)
level-held true true false d once flag small fits room e = absurd (let z : ◌≡◌ {A = ℕ} 0 1 = cc in omega arith)
level-held true true true false once flag small fits room e = absurd (let z : ◌≡◌ {A = ℕ} 0 1 = cc in omega arith)
level-held true true true true once flag small fits room e = (refl, refl)

module _ (file left right : List ℕ) (l : Level) (room : ℕ) where
  abbrev level-flag : Bool
  level-flag = found (stored_undo (items_of file)) true (agrees l.mode)

  abbrev level-ample : Bool
  level-ample = has_room room (length (replaced file (new_items file left right l)))

  level-whole : (o : Option Refusal) → refusal_of (level_checks file (is_there left) l) ≡ o
      → level_plan file left right l room
      ≡ planned
      (found o (refusal_of (need TagTooLarge (tag_fits (new_items file left right l)) ∷ room_for room (replaced file (new_items file left right l)) ∷ [])) Some)
      (level_gives file left right l)
  unfolding level_plan
  level-whole o e =
      ap (λ q. planned q (level_gives file left right l)) (level-parts (leb (length file) file_limit) (steps_fit l) (is_there left) (passes_gate file) (undo_once (items_of file)) level-flag (numbers_fit (booked l (items_of file))) (tag_fits (new_items file left right l)) level-ample o e)

  -- refused by the check, refused by the call
  pub level-refused : {r : Refusal} → level_check file (is_there left) l ≡ no r → level_plan file left right l room ≡ no r
  unfolding level_check
  level-refused {r} e = level-whole (Some r) (refused (refusal_of (level_checks file (is_there left) l)) (booked l (items_of file)) e)

  -- else only the new tag and the new file decide
  pub level-last : {u : UndoValues} → level_check file (is_there left) l ≡ yes u
      → level_plan file left right l room
      ≡ planned (refusal_of (need TagTooLarge (tag_fits (new_items file left right l)) ∷ room_for room (replaced file (new_items file left right l)) ∷ [])) (level_gives file left right l)
  unfolding level_check
  level-last e = level-whole None (done (refusal_of (level_checks file (is_there left) l)) (booked l (items_of file)) e).0

-- ---- the tests of undo, in two parts

undo-parts : (a c d once there room : Bool) (o : Option Refusal)
    → refusal_of (need FileTooLong a ∷ need NoLeftGains c ∷ need NotEditable d ∷ need SecondUndo once ∷ need NoUndo there ∷ []) ≡ o
    → refusal_of (need FileTooLong a ∷ need NoLeftGains c ∷ need NotEditable d ∷ need SecondUndo once ∷ need NoUndo there ∷ need NoRoom room ∷ [])
    ≡ found o (refusal_of (need NoRoom room ∷ [])) Some
undo-parts false c d once there room o e = rw (← e)
undo-parts true false d once there room o e = rw (← e)
undo-parts true true false once there room o e = rw (← e)
undo-parts true true true false there room o e = rw (← e)
undo-parts true true true true false room o e = rw (← e)
undo-parts true true true true true room o e = rw (← e)

undo-held : (a c d once there : Bool)
    → refusal_of (need FileTooLong a ∷ need NoLeftGains c ∷ need NotEditable d ∷ need SecondUndo once ∷ need NoUndo there ∷ []) ≡ None → (a ≡ true) × (d ≡ true)
undo-held false c d once there e = absurd (let z : ◌≡◌ {A = ℕ} 0 1 = cc in omega arith)
undo-held true false d once there e = absurd (let z : ◌≡◌ {A = ℕ} 0 1 = cc in omega arith)
undo-held true true false once there e = absurd (let z : ◌≡◌ {A = ℕ} 0 1 = cc in omega arith)
undo-held true true true once there e = (refl, refl)

-- what undo gives with a stored text
abbrev pub undone : List ℕ → List ℕ → List ℕ → List ℕ → Levelled
undone file left right text =
    record { out = replaced file (others (items_of file)); left = undone_left text left; right = undone_right text right; peaks = 0 }

module _ (file left right : List ℕ) (room : ℕ) where
  abbrev undo-ample : Bool
  undo-ample = has_room room (length (replaced file (others (items_of file))))

  undo-whole : (o : Option Refusal) → refusal_of (undo_checks file (is_there left)) ≡ o
      → undo_plan file left right room ≡ planned (found o (refusal_of (room_for room (replaced file (others (items_of file))) ∷ [])) Some) (undo_gives file left right)
  unfolding undo_plan
  undo-whole o e =
      ap (λ q. planned q (undo_gives file left right)) (undo-parts (leb (length file) file_limit) (is_there left) (passes_gate file) (undo_once (items_of file)) (is_some (stored_undo (items_of file))) undo-ample o e)

  -- refused by the check, refused by the call
  pub undo-refused : {r : Refusal} → undo_check file (is_there left) ≡ no r → undo_plan file left right room ≡ no r
  unfolding undo_check
  undo-refused {r} e = undo-whole (Some r) (refused (refusal_of (undo_checks file (is_there left))) (unwrap_or (stored_undo (items_of file)) []) e)

  -- else only the new file decides
  pub undo-last : {text : List ℕ} → undo_check file (is_there left) ≡ yes text
      → undo_plan file left right room ≡ planned (refusal_of (room_for room (replaced file (others (items_of file))) ∷ [])) (undone file left right text)
  unfolding undo_check
  undo-last {text} e =
      let d = done (refusal_of (undo_checks file (is_there left))) (unwrap_or (stored_undo (items_of file)) []) e in
      undo-whole None d.0 ∙ rw d.1

-- ---- what a check that is ready tells

-- a file that the gate passes has its items where they stand
passes_at : (s : List ℕ) → passes_gate s ≡ true → gate_of s ≡ Ok (area_place s)
unfolding gate_of
passes_at s p = rw p

placed : (s : List ℕ) → passes_gate s ≡ true → Passed s (area_place s)
placed s p = gate-passed s refl (passes_at s p)

-- the file is not too long, its items stand there, and these are the numbers to store
pub record Levels (file : List ℕ) (gains : Bool) (l : Level) (c : LevelReady) : Type 0 where
  pub short : length file ≤ 16777216
  pub passed : Passed file c.area
  pub numbers : c.undo ≡ booked l (items_of file)
  pub check : level_check file gains l ≡ yes c.undo

pub level-ready : (file : List ℕ) (gains : Bool) (l : Level) {c : LevelReady} → Ok c ≡ level_check_answer (area_place file) (level_check file gains l) → Levels file gains l c
unfolding level_check
level-ready file gains l {c} e = go (level_check file gains l) refl
  where
    go : (p : Plan UndoValues) → level_check file gains l ≡ p → Levels file gains l c
    go (no r) q = let y : Ok c ≡ Err r = e ∙ rw q in absurd (let z : ◌≡◌ {A = ℕ} 0 1 = cc in omega arith)
    go (yes v) q =
        let y : Ok c ≡ Ok (record { area = area_place file; undo = v }) = e ∙ rw q in
        let w : c ≡ record { area = area_place file; undo = v } = cc in
        let d = done (refusal_of (level_checks file gains l)) (booked l (items_of file)) q in
        let h = level-held (leb (length file) file_limit) (steps_fit l) gains (passes_gate file) (undo_once (items_of file)) (found (stored_undo (items_of file)) true (agrees l.mode)) (numbers_fit (booked l (items_of file))) true true d.0 in
        rw w (record { short = leb-true _ _ h.0; passed = placed file h.1; numbers = d.1; check = q })

pub level-not : (file : List ℕ) (gains : Bool) (l : Level) {r : Refusal} → Err r ≡ level_check_answer (area_place file) (level_check file gains l) → level_check file gains l ≡ no r
level-not file gains l {r} e = go (level_check file gains l) refl
  where
    go : (p : Plan UndoValues) → level_check file gains l ≡ p → level_check file gains l ≡ no r
    go (no s) q = let y : Err r ≡ Err s = e ∙ rw q in let z : s ≡ r = cc in q ∙ ap no z
    go (yes v) q =
        let y : ◌≡◌ {A = Result LevelReady Refusal} (Err r) (Ok (record { area = area_place file; undo = v })) = e ∙ rw q in
        absurd (let z : ◌≡◌ {A = ℕ} 0 1 = cc in omega arith)

-- the same of undo: this is what the stored text says
pub record Undoes (file : List ℕ) (gains : Bool) (c : UndoReady) : Type 0 where
  pub short : length file ≤ 16777216
  pub passed : Passed file c.area
  pub text : List ℕ
  pub check : undo_check file gains ≡ yes text
  pub said-is : c.undo ≡ said text

pub undo-ready : (file : List ℕ) (gains : Bool) {c : UndoReady} → Ok c ≡ undo_check_answer (area_place file) (undo_check file gains) → Undoes file gains c
unfolding undo_check
undo-ready file gains {c} e = go (undo_check file gains) refl
  where
    go : (p : Plan (List ℕ)) → undo_check file gains ≡ p → Undoes file gains c
    go (no r) q = let y : Ok c ≡ Err r = e ∙ rw q in absurd (let z : ◌≡◌ {A = ℕ} 0 1 = cc in omega arith)
    go (yes v) q =
        let y : Ok c ≡ Ok (record { area = area_place file; undo = said v }) = e ∙ rw q in
        let w : c ≡ record { area = area_place file; undo = said v } = cc in
        let d = done (refusal_of (undo_checks file gains)) (unwrap_or (stored_undo (items_of file)) []) q in
        let h = undo-held (leb (length file) file_limit) gains (passes_gate file) (undo_once (items_of file)) (is_some (stored_undo (items_of file))) d.0 in
        rw w (record { short = leb-true _ _ h.0; passed = placed file h.1; text = v; check = q; said-is = refl })

pub undo-not : (file : List ℕ) (gains : Bool) {r : Refusal} → Err r ≡ undo_check_answer (area_place file) (undo_check file gains) → undo_check file gains ≡ no r
undo-not file gains {r} e = go (undo_check file gains) refl
  where
    go : (p : Plan (List ℕ)) → undo_check file gains ≡ p → undo_check file gains ≡ no r
    go (no s) q = let y : Err r ≡ Err s = e ∙ rw q in let z : s ≡ r = cc in q ∙ ap no z
    go (yes v) q =
        let y : ◌≡◌ {A = Result UndoReady Refusal} (Err r) (Ok (record { area = area_place file; undo = said v })) = e ∙ rw q in
        absurd (let z : ◌≡◌ {A = ℕ} 0 1 = cc in omega arith)
