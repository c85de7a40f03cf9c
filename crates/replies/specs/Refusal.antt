-- Document 01, "Replies": a number for each refusal, and which one is given where several apply.
use Rattle.std.specs.Prelude.{ℕ, Bool, false, not, cond, List, [], ◌∷◌, eqb}
use Rattle.std.specs.Prelude.{Option, None, Some}
use Rattle.replies.specs.declared.Refusal.{Refusal}
use Rattle.replies.specs.declared.Refusal.TheVariants.{
  FileTooLong,
  StepOutOfRange,
  BadKey,
  NotUtf8,
  NoRoom,
  TagTooLarge,
  NoLeftGains,
  NotEditable,
  FlagDiffers,
  NoUndo,
  UndoOutOfRange,
  MalformedArea,
  MalformedSlip,
  SecondUndo,
  NoFrame,
  HasChecksum,
}

-- the number of each refusal in the table
abbrev pub number_of : Refusal → ℕ
number_of FileTooLong = 1
number_of StepOutOfRange = 2
number_of BadKey = 3
number_of NotUtf8 = 4
number_of NoRoom = 5
number_of TagTooLarge = 6
number_of NoLeftGains = 7
number_of NotEditable = 8
number_of FlagDiffers = 9
number_of NoUndo = 10
number_of UndoOutOfRange = 11
number_of MalformedArea = 12
number_of MalformedSlip = 13
number_of SecondUndo = 14
number_of NoFrame = 15
number_of HasChecksum = 16

-- where several apply, the first of these is given
abbrev pub order : List Refusal
order =
    MalformedSlip ∷ FileTooLong ∷ MalformedArea ∷ StepOutOfRange ∷ BadKey ∷ NotUtf8 ∷ NoFrame ∷ HasChecksum ∷ NoLeftGains ∷ NotEditable ∷ SecondUndo
    ∷ NoUndo ∷ FlagDiffers ∷ UndoOutOfRange ∷ TagTooLarge ∷ NoRoom ∷ []

-- what a call needs, and how it refuses where that does not hold
pub record Test : Type 0 where
  pub refusal : Refusal
  pub holds : Bool

-- a test: the refusal, and what has to hold
abbrev pub need : Refusal → Bool → Test
need r b = record { refusal = r; holds = b }

-- does a test with this refusal fail?
abbrev pub failed : Refusal → List Test → Bool
failed r [] = false
failed r (t ∷ ts) = cond (eqb (number_of t.refusal) (number_of r)) (not t.holds) (failed r ts)

-- the first refusal of a list whose test fails: none where all hold
abbrev pub first_of : List Refusal → List Test → Option Refusal
first_of [] ts = None
first_of (r ∷ rs) ts = cond (failed r ts) (Some r) (first_of rs ts)

-- how a call with these tests refuses: none where all hold
abbrev pub refusal_of : List Test → Option Refusal
refusal_of ts = first_of order ts

-- what a call does: it refuses, or it is done with a result
pub data Plan (A : Type 0) : Type 0 where
  no : Refusal → Plan A
  yes : A → Plan A

-- refused by the first test that fails, else done
abbrev pub planned : {A : Type 0} → Option Refusal → A → Plan A
planned None a = yes a
planned (Some r) a = no r
