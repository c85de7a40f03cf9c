-- What the faces of crates slip and level_slip answer and leave in their lent numbers. A refusal leaves them.
use Rattle.std.specs.Prelude.{ℕ, cond, List, eqb, ℤ}
use Rattle.std.specs.Prelude.{Option, None, Some, Result, Ok, Err}
use Rattle.replies.specs.Refusal.{number_of}
use Rattle.replies.specs.declared.Refusal.TheVariants.{MalformedSlip}
use Rattle.frame.specs.declared.GainMode.{GainMode}
use Rattle.frame.specs.declared.GainMode.TheVariants.{Saturating, Wrapping}
use Rattle.slip.specs.declared.Wish.{Wish}
use Rattle.replies.specs.declared.Refusal.{Refusal}
use Rattle.calls.specs.Gate.{items_of}
use Rattle.calls.specs.Calls.{resolved}

-- the number of a mode: 0 for N, 1 for W
abbrev pub gain_mode_number : GainMode → ℕ
gain_mode_number Saturating = 0
gain_mode_number Wrapping = 1

-- the number of a slip's mode: 2 where it names none
abbrev pub mode_number : Option GainMode → ℕ
mode_number (Some m) = gain_mode_number m
mode_number None = 2

-- the mode with a number
abbrev pub mode_with : ℕ → Option (Option GainMode)
mode_with n = cond (eqb n 0) (Some (Some Saturating)) (cond (eqb n 1) (Some (Some Wrapping)) (cond (eqb n 2) (Some None) None))

-- a slip read: the reply, the steps of either side, and the number of the mode
pub record SlipFace : Type 0 where
  pub reply : ℕ
  pub left : ℤ
  pub right : ℤ
  pub mode : ℕ

-- from the answer to a slip, and what the lent numbers held
abbrev pub slip_face : Result Wish Refusal → ℤ → ℤ → ℕ → SlipFace
slip_face (Ok w) left right mode = record { reply = 0; left = w.left.0; right = w.right.0; mode = mode_number w.mode }
slip_face (Err r) left right mode = record { reply = number_of r; left = left; right = right; mode = mode }

-- a mode resolved: the reply, and the number of N or W
pub record ModeFace : Type 0 where
  pub reply : ℕ
  pub mode : ℕ

-- for a file, and what the lent number held: a number of no mode is refused as a malformed slip
abbrev pub mode_face : Option (Option GainMode) → List ℕ → ℕ → ModeFace
mode_face None file mode = record { reply = number_of MalformedSlip; mode = mode }
mode_face (Some m) file mode = record { reply = 0; mode = gain_mode_number (resolved m (items_of file)) }
