-- What the faces of the calls on the gains in the sound answer and leave in their lent numbers.
use Rattle.std.specs.Prelude.{ℕ, List, ℤ}
use Rattle.std.specs.Prelude.{Option, None, Some, Result, Ok, Err}
use Rattle.replies.specs.Refusal.{number_of, Plan, no}
use Rattle.replies.specs.declared.Refusal.{Refusal}
use Rattle.sound_lists.specs.declared.Counts.{Counts}
use Rattle.frame.specs.declared.GainMode.{GainMode}
use Rattle.replies.specs.declared.Refusal.TheVariants.{MalformedSlip}
use Rattle.calls.specs.Calls.{Levelled}
use Rattle.sound_calls.specs.Sound.{level_mp3_plan}

-- the reply, and what the two lent counts hold afterwards
pub record CountsFace : Type 0 where
  pub reply : ℕ
  pub left : ℕ
  pub right : ℕ

-- from the answer, and what the lent counts held: a refusal leaves them
abbrev pub counts_face : Result Counts Refusal → ℕ → ℕ → CountsFace
counts_face (Err r) left right = record { reply = number_of r; left = left; right = right }
counts_face (Ok c) left right = record { reply = 0; left = c.left; right = c.right }

-- level_mp3 by a mode that came as a number: refusal 13 where it is none
abbrev pub numbered_plan : Option (Option GainMode) → List ℕ → ℤ → ℤ → ℕ → Plan Levelled
numbered_plan None file l r room = no MalformedSlip
numbered_plan (Some m) file l r room = level_mp3_plan file (record { left = record { 0 = l }; right = record { 0 = r }; mode = m }) room
