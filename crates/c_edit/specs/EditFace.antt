-- What the face of the gate answers and leaves in its lent numbers. A refusal leaves them.
use Rattle.std.specs.Prelude.{ℕ}
use Rattle.replies.specs.Refusal.{number_of, Plan, no, yes}
use Rattle.gate.specs.declared.TagArea.{TagArea}

-- the reply, where the items stand, and how many there are
pub record GateFace : Type 0 where
  pub reply : ℕ
  pub start : ℕ
  pub end : ℕ
  pub count : ℕ

-- from the place of the items or the refusal, and what the lent numbers held
abbrev pub gate_face : Plan TagArea → ℕ → ℕ → ℕ → GateFace
gate_face (no r) start end count = record { reply = number_of r; start = start; end = end; count = count }
gate_face (yes p) start end count = record { reply = 0; start = p.start; end = p.end; count = p.count }
