-- Laws of the undo numbers that level stores: refusals 14, 9 and 11.
use Prim.Native.Nat.{ℕ}
use lib.IntN.{ℤ}
use mathlib.Core.Path.{◌≡◌, refl, ap, ◌∙◌}
use mathlib.Core.Bool.{Bool, true, false}
use Rattle.std.specs.Prelude.{None, Some, Result, Ok, Err}
use mathlib.Core.List.{List, []}
use native.Mathlib.Omega.{arith}
use lib.Signed.{mag}
use Rattle.integers.specs.declared.Apart.{Apart}
use Rattle.integers.specs.Apart.{whole_of}
use Rattle.replies.specs.Refusal.{Plan, no, yes}
use Rattle.replies.specs.declared.Refusal.{Refusal}
use Rattle.replies.specs.declared.Refusal.TheVariants.{FlagDiffers, UndoOutOfRange, SecondUndo}
use Rattle.values.specs.declared.UndoValues.{UndoValues}
use Rattle.values.specs.Undo.{accumulated}
use Rattle.keys.specs.Keys.{undo_key}
use Rattle.items.specs.Items.{Item, is_repeated}
use Rattle.calls.specs.Calls.{Level, stored_undo, agrees, booked, is_undo_number}
use Rattle.checks.specs.Checks.{numbers_plan, next_undo_plan, next_undo_answer}

pub by-mag : (a : Apart) → a.by ≡ mag (whole_of a)
by-mag a = go a.down refl
  where
    go : (d : Bool) → a.down ≡ d → a.by ≡ mag (whole_of a)
    go true e = rw e
    go false e = rw e

-- ---- each answer by its tests

module _ (text : List ℕ) (left right : ℤ) (u : UndoValues) (e : u ≡ accumulated text left right) where
  pub number-left : is_undo_number u.left ≡ false → numbers_plan text left right ≡ no UndoOutOfRange
  unfolding numbers_plan
  number-left f = rw (← e, f)

  pub number-right : is_undo_number u.left ≡ true → is_undo_number u.right ≡ false → numbers_plan text left right ≡ no UndoOutOfRange
  unfolding numbers_plan
  number-right f g = rw (← e, f, g)

  pub number-both : is_undo_number u.left ≡ true → is_undo_number u.right ≡ true → numbers_plan text left right ≡ yes u
  unfolding numbers_plan
  number-both f g = rw (← e, f, g)

module _ (l : Level) (ts : List Item) where
  pub next-14 : is_repeated undo_key ts ≡ true → next_undo_plan l ts ≡ no SecondUndo
  unfolding next_undo_plan
  next-14 e = rw e

  module _ (o : is_repeated undo_key ts ≡ false) where
    pub next-none : stored_undo ts ≡ None → next_undo_plan l ts ≡ numbers_plan [] l.left l.right
    unfolding next_undo_plan numbers_plan booked
    next-none e = rw (o, e)

    module _ {text : List ℕ} (e : stored_undo ts ≡ Some text) where
      pub next-9 : agrees l.mode text ≡ false → next_undo_plan l ts ≡ no FlagDiffers
      unfolding next_undo_plan
      next-9 f = rw (o, e, f)

      pub next-some : agrees l.mode text ≡ true → next_undo_plan l ts ≡ numbers_plan text l.left l.right
      unfolding next_undo_plan numbers_plan booked
      next-some f = rw (o, e, f)

-- ---- what the answer tells of the plan

pub numbers-yes : (p : Plan UndoValues) {u : UndoValues} → Ok u ≡ next_undo_answer p → p ≡ yes u
numbers-yes (no r) e = absurd (let z : ◌≡◌ {A = ℕ} 0 1 = cc in omega arith)
numbers-yes (yes v) {u} e = let z : v ≡ u = cc in rw z

pub numbers-no : (p : Plan UndoValues) {r : Refusal} → Err r ≡ next_undo_answer p → p ≡ no r
numbers-no (no s) {r} e = let z : s ≡ r = cc in rw z
numbers-no (yes v) e = absurd (let z : ◌≡◌ {A = ℕ} 0 1 = cc in omega arith)
