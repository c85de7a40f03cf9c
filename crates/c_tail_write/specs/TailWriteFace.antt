-- What the faces of crate tail_write answer and leave in their lent numbers. A refusal leaves them.
use Rattle.std.specs.Prelude.{ℕ, Result, Ok, Err}
use Rattle.replies.specs.Refusal.{number_of}
use Rattle.tail_write.specs.declared.Rewritten.{Rewritten}
use Rattle.tail_write.specs.declared.Rewritten.TheVariants.{Done, Stopped}
use Rattle.replies.specs.declared.Refusal.{Refusal}

-- the reply, whether all writes were made, the first place that is written, and the length of the file
pub record RewrittenFace : Type 0 where
  pub reply : ℕ
  pub whole : ℕ
  pub end : ℕ
  pub length : ℕ

-- from the answer, and what the lent numbers held
abbrev pub rewritten_face : Result Rewritten Refusal → ℕ → ℕ → ℕ → RewrittenFace
rewritten_face (Ok (Done e n)) whole end length = record { reply = 0; whole = 1; end = e; length = n }
rewritten_face (Ok (Stopped e n)) whole end length = record { reply = 0; whole = 0; end = e; length = n }
rewritten_face (Err r) whole end length = record { reply = number_of r; whole = whole; end = end; length = length }
