-- What the faces that edit an area answer and leave in their lent numbers. A refusal leaves them.
use Rattle.std.specs.Prelude.{ℕ, Result, Ok, Err}
use Rattle.replies.specs.Refusal.{number_of}
use Rattle.replies.specs.declared.Refusal.{Refusal}
use Rattle.items.specs.declared.Size.{Size}

-- an edit: the reply, how many items were written, and how many bytes
pub record EditedFace : Type 0 where
  pub reply : ℕ
  pub items : ℕ
  pub written : ℕ

-- from the answer of the edit, and what the lent numbers held
abbrev pub edited_face : Result Size Refusal → ℕ → ℕ → EditedFace
edited_face (Ok z) items written = record { reply = 0; items = z.count; written = z.length }
edited_face (Err r) items written = record { reply = number_of r; items = items; written = written }
