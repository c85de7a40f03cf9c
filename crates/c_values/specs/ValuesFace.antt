-- What the faces of crate values answer and leave in what they are lent.
use Rattle.std.specs.Prelude.{ℕ, Bool, true, false, cond, List, length, leb, eqb}
use Rattle.std.specs.Prelude.{Option, None, Some}
use Rattle.lists.specs.Write.{over}
use Rattle.replies.specs.Refusal.{number_of}
use Rattle.replies.specs.declared.Refusal.TheVariants.{NoRoom}

-- yes is 1
abbrev pub flag : Bool → ℕ
flag true = 1
flag false = 0

-- a text written: the reply, its length, and the output
pub record TextFace : Type 0 where
  pub reply : ℕ
  pub written : ℕ
  pub out : List ℕ

-- where it does not fit, refusal 5 leaves all
abbrev pub text_face : List ℕ → List ℕ → ℕ → TextFace
text_face w out old = cond (leb (length w) (length out)) (record { reply = 0; written = length w; out = over w out }) (record { reply = number_of NoRoom; written = old; out = out })

-- a value shifted: the reply, whether it has a new text, and that text written
pub record ShiftFace : Type 0 where
  pub reply : ℕ
  pub moved : ℕ
  pub written : ℕ
  pub out : List ℕ

-- refusal 5 leaves the flag too
abbrev pub moved_face : TextFace → ℕ → ShiftFace
moved_face t moved = record { reply = t.reply; moved = cond (eqb t.reply 0) 1 moved; written = t.written; out = t.out }

-- what stays as found has no new text
abbrev pub shift_face : Option (List ℕ) → List ℕ → ℕ → ℕ → ShiftFace
shift_face None out moved written = record { reply = 0; moved = 0; written = 0; out = out }
shift_face (Some w) out moved written = moved_face (text_face w out written) moved
