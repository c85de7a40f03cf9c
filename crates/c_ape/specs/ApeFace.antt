-- What the faces of crates ape, ape_write and ape_replace answer and leave in their lent numbers. A refusal leaves them.
use Rattle.std.specs.Prelude.{Option, None, Some, Result, Ok, Err}
use Rattle.std.specs.Prelude.{ℕ}
use Rattle.replies.specs.Refusal.{number_of, Plan, no, yes}
use Rattle.items.specs.declared.Size.{Size}
use Rattle.ape_replace.specs.declared.Cut.{Cut}
use Rattle.replies.specs.declared.Refusal.{Refusal}

-- a search: the reply, whether a footer is there, and its place
pub record FooterFace : Type 0 where
  pub reply : ℕ
  pub there : ℕ
  pub footer : ℕ

-- from the answer of the search, and what the lent numbers held
abbrev pub footer_face : Result (Option ℕ) Refusal → ℕ → ℕ → FooterFace
footer_face (Ok (Some f)) there footer = record { reply = 0; there = 1; footer = f }
footer_face (Ok None) there footer = record { reply = 0; there = 0; footer = 0 }
footer_face (Err r) there footer = record { reply = number_of r; there = there; footer = footer }

-- a reading: the reply, whether a tag is there, how many items it has, and how long their area is
pub record ReadFace : Type 0 where
  pub reply : ℕ
  pub there : ℕ
  pub count : ℕ
  pub written : ℕ

-- from the answer of the reading, and what the lent numbers held
abbrev pub read_face : Result (Option Size) Refusal → ℕ → ℕ → ℕ → ReadFace
read_face (Ok None) there count written = record { reply = 0; there = 0; count = 0; written = 0 }
read_face (Ok (Some z)) there count written = record { reply = 0; there = 1; count = z.count; written = z.length }
read_face (Err r) there count written = record { reply = number_of r; there = there; count = count; written = written }

-- a call that answers a length: the reply, and how many bytes
pub record WrittenFace : Type 0 where
  pub reply : ℕ
  pub written : ℕ

-- from the answer of the call, and what the lent number held
abbrev pub written_face : Result ℕ Refusal → ℕ → WrittenFace
written_face (Ok n) old = record { reply = 0; written = n }
written_face (Err r) old = record { reply = number_of r; written = old }

-- a split: the reply, and where the file is cut
pub record SplitFace : Type 0 where
  pub reply : ℕ
  pub front : ℕ
  pub from : ℕ
  pub to : ℕ

-- from the cut or the refusal, and what the lent numbers held
abbrev pub split_face : Plan Cut → ℕ → ℕ → ℕ → SplitFace
split_face (no r) front from to = record { reply = number_of r; front = front; from = from; to = to }
split_face (yes c) front from to = record { reply = 0; front = c.front; from = c.from; to = c.to }
