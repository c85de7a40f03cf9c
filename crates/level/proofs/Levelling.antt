-- Laws of level: the file that is written, and what is left when the tests before it hold.
use Prim.Native.Nat.{ℕ}
use native.Mathlib.Omega.{arith}
use mathlib.Core.Path.{◌≡◌, refl}
use Rattle.std.specs.Prelude.{Option, None, Some, Ok, Err}
use mathlib.Core.List.{List, [], ◌∷◌, ◌++◌}
use lib.ListN.{length}
use Rattle.replies.specs.Refusal.{Plan, no, yes, Test, need, refusal_of, planned}
use Rattle.replies.specs.declared.Refusal.{Refusal}
use Rattle.replies.specs.declared.Refusal.TheVariants.{TagTooLarge}
use Rattle.values.specs.declared.UndoValues.{UndoValues}
use Rattle.values.specs.declared.Range.{Range}
use Rattle.ape.specs.Tag.{replaced}
use Rattle.ape.specs.Answers.{room_for}
use Rattle.ape_write.specs.Answers.{written_answer, written_bytes}
use Rattle.calls.specs.Gate.{items_of, tag_fits}
use Rattle.calls.specs.Calls.{Level, Levelled, booked, range_of, adjusted, levelled_items, new_items, is_there, level_gives, level_plan}
use Rattle.edit.specs.Finish.{tag_plan}
use Rattle.level_items.specs.Items.{undone_items, ranged_items}
use Rattle.checks.specs.Checks.{level_check}
use Rattle.checks.proofs.Whole.{level-last as whole-last}
use Rattle.level.specs.declared.Leveled.{Leveled}
use Rattle.level.specs.Answers.{filed_answer, last_plan}

-- ---- a file that was written

pub filed-done : (p : Plan (List ℕ)) {n : ℕ} (peaks : ℕ) → Ok n ≡ written_answer p → Ok (record { length = n; peaks = peaks }) ≡ filed_answer p peaks
filed-done (no r) peaks e = absurd (let z : ◌≡◌ {A = ℕ} 0 1 = cc in omega arith)
filed-done (yes s) {n} peaks e = let z : n ≡ length s = cc in rw z

pub filed-refused : (p : Plan (List ℕ)) {r : Refusal} (peaks : ℕ) → Err r ≡ written_answer p → Err r ≡ filed_answer p peaks
filed-refused (no s) {r} peaks e = let z : r ≡ s = cc in rw z
filed-refused (yes s) peaks e = absurd (let z : ◌≡◌ {A = ℕ} 0 1 = cc in omega arith)

-- ---- the last tests

-- a file that is refused, or written, by the same tests as the call
filed-no : (o : Option Refusal) (s : List ℕ) (x : Levelled) {r : Refusal} (peaks : ℕ) → Err r ≡ filed_answer (planned o s) peaks → (planned o x ≡ no r) × (written_bytes (planned o s) ≡ [])
filed-no None s x peaks e = absurd (let z : ◌≡◌ {A = ℕ} 0 1 = cc in omega arith)
filed-no (Some q) s x {r} peaks e = let z : q ≡ r = cc in (rw z, refl)

filed-yes : (o : Option Refusal) (s : List ℕ) (x : Levelled) {a : Leveled} (peaks : ℕ) → Ok a ≡ filed_answer (planned o s) peaks
    → (planned o x ≡ yes x) × (a ≡ record { length = length s; peaks = peaks }) × (written_bytes (planned o s) ≡ s)
filed-yes None s x peaks e = (refl, cc, refl)
filed-yes (Some q) s x peaks e = absurd (let z : ◌≡◌ {A = ℕ} 0 1 = cc in omega arith)

module _ (file left right : List ℕ) (l : Level) (room : ℕ) where
  -- the items that are written
  pub new_is : {u : UndoValues} {r : Range} → u ≡ booked l (items_of file) → r ≡ range_of (adjusted l.mode l.left left ++ adjusted l.mode l.right right)
      → ranged_items l u r (items_of file) ≡ new_items file left right l
  unfolding ranged_items undone_items levelled_items
  new_is e f = rw (e, f)

  abbrev tests : List Test
  tests = need TagTooLarge (tag_fits (new_items file left right l)) ∷ room_for room (replaced file (new_items file left right l)) ∷ []

  pub last-refused : {r : Refusal} (peaks : ℕ) → Err r ≡ filed_answer (tag_plan file (new_items file left right l) room) peaks → (last_plan file left right l room ≡ no r) × (written_bytes (tag_plan file (new_items file left right l) room) ≡ [])
  unfolding tag_plan last_plan
  last-refused peaks e = filed-no (refusal_of tests) (replaced file (new_items file left right l)) (level_gives file left right l) peaks e

  pub last_done : {a : Leveled} (peaks : ℕ) → Ok a ≡ filed_answer (tag_plan file (new_items file left right l) room) peaks
      → (last_plan file left right l room ≡ yes (level_gives file left right l)) × (a ≡ record { length = length (replaced file (new_items file left right l)); peaks = peaks })
      × (written_bytes (tag_plan file (new_items file left right l) room) ≡ replaced file (new_items file left right l))
  unfolding tag_plan last_plan
  last_done peaks e = filed-yes (refusal_of tests) (replaced file (new_items file left right l)) (level_gives file left right l) peaks e

  -- where the check is ready, only these tests are left
  pub level-last : {u : UndoValues} → level_check file (is_there left) l ≡ yes u → level_plan file left right l room ≡ last_plan file left right l room
  unfolding last_plan
  level-last e = whole-last file left right l room e
