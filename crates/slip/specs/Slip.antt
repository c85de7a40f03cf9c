-- The level slip (document 01, "Slip and listing").
use Rattle.std.specs.Prelude.{ℕ, Bool, true, ◌&&◌, cond, List, [], ◌∷◌, length, drop, leb, ℤ, nat_abs}
use Rattle.std.specs.Prelude.{Option, None, Some, option_map, Result, Ok, Err}
use Rattle.lists.specs.Bytes.{ascii, same, starts_with}
use Rattle.lists.specs.Choice.{found, is_some}
use Rattle.replies.specs.declared.Refusal.{Refusal}
use Rattle.replies.specs.declared.Refusal.TheVariants.{StepOutOfRange, MalformedSlip}
use Rattle.replies.specs.Refusal.{Test, need, refusal_of}
use Rattle.number.specs.Fields.{before, behind}
use Rattle.number.specs.Reading.{unsigned, whole}
use Rattle.frame.specs.declared.GainMode.{GainMode}
use Rattle.frame.specs.declared.GainMode.TheVariants.{Saturating, Wrapping}
use Rattle.slip.specs.declared.Wish.{Wish}

-- an optional sign and 1 to 5 digits
unfoldable pub step_text : List ℕ → Option ℤ
step_text s = cond (leb (length (unsigned s)) 5) (whole s) None

-- a line that is a name and a number
unfoldable pub step_line : List ℕ → List ℕ → Option ℤ
step_line name line = cond (starts_with name line) (step_text (drop (length name) line)) None

-- what follows the two numbers; nothing names no mode
unfoldable pub mode_line : List ℕ → Option (Option GainMode)
mode_line rest =
    cond (same rest []) (Some None)
    (cond (same rest (ascii "mode=W\n")) (Some (Some Wrapping)) (cond (same rest (ascii "mode=N\n")) (Some (Some Saturating)) None))

-- two lines and what follows them
unfoldable pub lines_form : List ℕ → List ℕ → List ℕ → Option Wish
lines_form first second rest =
    found (step_line (ascii "left=") first) None (λ l.
    found (step_line (ascii "right=") second) None (λ r.
    option_map (λ m. record { left = record { 0 = l }; right = record { 0 = r }; mode = m }) (mode_line rest)))

-- a slip of good form: LF after each line
unfoldable pub slip_form : List ℕ → Option Wish
slip_form s = found (behind 0x0A s) None (λ t. found (behind 0x0A t) None (λ u. lines_form (before 0x0A s) (before 0x0A t) u))

-- is it a step in -255..255?
abbrev pub is_step : ℤ → Bool
is_step z = leb (nat_abs z) 255

-- are both steps in range?
abbrev pub in_range : Wish → Bool
in_range w = is_step w.left.0 && is_step w.right.0

-- what a slip needs
abbrev pub slip_tests : Option Wish → List Test
slip_tests o = need MalformedSlip (is_some o) ∷ need StepOutOfRange (found o true in_range) ∷ []

-- the answer to what was read
abbrev pub answer : Option Wish → Result Wish Refusal
answer o = found (refusal_of (slip_tests o)) (found o (Err MalformedSlip) (λ w. Ok w)) (λ r. Err r)

-- a slip read
abbrev pub read_slip : List ℕ → Result Wish Refusal
read_slip s = answer (slip_form s)
