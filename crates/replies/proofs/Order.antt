-- Laws of a call's tests: none is refused exactly where all hold, whatever order they are listed in.
use Prim.Native.Nat.{ℕ, zero, suc, ◌<◌}
use native.Mathlib.Omega.{arith}
use mathlib.Core.Path.{◌≡◌, refl, sym, ap, ◌∙◌}
use mathlib.Core.Bool.{Bool, true, false, not, cond}
use Rattle.std.specs.Prelude.{Option, None, Some}
use mathlib.Core.List.{List, [], ◌∷◌}
use lib.ListN.{length, get_or}
use lib.Dec.{eqb}
use borrow.Author.Tests.{not-false}
use Rattle.replies.specs.Refusal.{number_of, order, Test, failed, first_of, refusal_of, yes, planned}
use Rattle.replies.specs.declared.Refusal.{Refusal}
use Rattle.replies.specs.declared.Refusal.TheVariants.{
  FileTooLong,
  StepOutOfRange,
  BadKey,
  NotUtf8,
  NoRoom,
  TagTooLarge,
  NoLeftGains,
  NotEditable,
  FlagDiffers,
  NoUndo,
  UndoOutOfRange,
  MalformedArea,
  MalformedSlip,
  SecondUndo,
  NoFrame,
  HasChecksum,
}

-- every test holds
abbrev pub AllHold : List Test → Type 0
AllHold [] = Unit {0}
AllHold (t ∷ ts) = (t.holds ≡ true) × AllHold ts

never-failed : (r : Refusal) (ts : List Test) → AllHold ts → failed r ts ≡ false
never-failed r [] h = refl
never-failed r (t ∷ ts) (e, h) = go (eqb (number_of t.refusal) (number_of r)) (never-failed r ts h)
  where
    go : (b : Bool) → failed r ts ≡ false → cond b (not t.holds) (failed r ts) ≡ false
    go true f = rw e
    go false f = f

none_first : (rs : List Refusal) (ts : List Test) → AllHold ts → first_of rs ts ≡ None
none_first [] ts h = refl
none_first (r ∷ rs) ts h = rw (never-failed r ts h) (none_first rs ts h)

-- where all hold, nothing is refused
pub all_held : (ts : List Test) → AllHold ts → refusal_of ts ≡ None
all_held ts h = none_first order ts h

first-none : (rs : List Refusal) (ts : List Test) (i : ℕ) (d : Refusal) → first_of rs ts ≡ None → i < length rs → failed (get_or rs i d) ts ≡ false
first-none [] ts i d e h = absurd (omega arith)
first-none (r ∷ rs) ts i d e h = go (failed r ts) refl e i h (λ j. first-none rs ts j d)
  where
    go : (b : Bool) → failed r ts ≡ b → cond b (Some r) (first_of rs ts) ≡ None → (i : ℕ) → i < length (r ∷ rs)
        → ((j : ℕ) → first_of rs ts ≡ None → j < length rs → failed (get_or rs j d) ts ≡ false) → failed (get_or (r ∷ rs) i d) ts ≡ false
    go true q e i h ih = absurd (let z : ◌≡◌ {A = ℕ} 0 1 = cc in omega arith)
    go false q e zero h ih = q
    go false q e (suc i) h ih = ih i e (omega arith)

-- the place of a refusal in the order
abbrev place_in : Refusal → ℕ
place_in MalformedSlip = 0
place_in FileTooLong = 1
place_in MalformedArea = 2
place_in StepOutOfRange = 3
place_in BadKey = 4
place_in NotUtf8 = 5
place_in NoFrame = 6
place_in HasChecksum = 7
place_in NoLeftGains = 8
place_in NotEditable = 9
place_in SecondUndo = 10
place_in NoUndo = 11
place_in FlagDiffers = 12
place_in UndoOutOfRange = 13
place_in TagTooLarge = 14
place_in NoRoom = 15

-- each refusal has its place there
listed : (r : Refusal) → (get_or order (place_in r) FileTooLong ≡ r) × (place_in r < 16)
listed MalformedSlip = (refl, omega arith)
listed FileTooLong = (refl, omega arith)
listed MalformedArea = (refl, omega arith)
listed StepOutOfRange = (refl, omega arith)
listed BadKey = (refl, omega arith)
listed NotUtf8 = (refl, omega arith)
listed NoFrame = (refl, omega arith)
listed HasChecksum = (refl, omega arith)
listed NoLeftGains = (refl, omega arith)
listed NotEditable = (refl, omega arith)
listed SecondUndo = (refl, omega arith)
listed NoUndo = (refl, omega arith)
listed FlagDiffers = (refl, omega arith)
listed UndoOutOfRange = (refl, omega arith)
listed TagTooLarge = (refl, omega arith)
listed NoRoom = (refl, omega arith)

-- where nothing is refused, no test failed
pub none-failed : (ts : List Test) → refusal_of ts ≡ None → (r : Refusal) → failed r ts ≡ false
none-failed ts e r =
    let (q, h) = listed r in
    ap (λ x. failed x ts) (sym q) ∙ first-none order ts (place_in r) FileTooLong e h

-- so the test of that refusal holds
pub passed : (ts : List Test) → refusal_of ts ≡ None → (r : Refusal) (b : Bool) → failed r ts ≡ not b → b ≡ true
passed ts e r b q = not-false b (sym q ∙ none-failed ts e r)

-- ---- plans

-- a call that is done was not refused
pub done : {A : Type 0} (o : Option Refusal) (a b : A) → planned o a ≡ yes b → (o ≡ None) × (a ≡ b)
done None a b e = (refl, cc)
done (Some r) a b e = absurd (let z : ◌≡◌ {A = ℕ} 0 1 = cc in omega arith)
