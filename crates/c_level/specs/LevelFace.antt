-- What the faces of crate level answer and leave in their lent numbers. A refusal leaves them.
use Rattle.std.specs.Prelude.{ℕ, Result, Ok, Err}
use Rattle.replies.specs.Refusal.{number_of}
use Rattle.replies.specs.declared.Refusal.{Refusal}
use Rattle.level.specs.declared.Leveled.{Leveled}

-- the reply, how many bytes, and how many peak items
pub record LevelFace : Type 0 where
  pub reply : ℕ
  pub written : ℕ
  pub peaks : ℕ

-- from the answer of level or undo, and what the lent numbers held
abbrev pub level_face : Result Leveled Refusal → ℕ → ℕ → LevelFace
level_face (Ok d) written peaks = record { reply = 0; written = d.length; peaks = d.peaks }
level_face (Err r) written peaks = record { reply = number_of r; written = written; peaks = peaks }
