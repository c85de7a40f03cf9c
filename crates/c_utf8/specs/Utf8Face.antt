-- What the faces of crates utf8 and lossy answer and leave in their lent numbers.
use Rattle.std.specs.Prelude.{ℕ, Option, None, Some}
use Rattle.replies.specs.Refusal.{number_of}
use Rattle.replies.specs.declared.Refusal.TheVariants.{NoRoom}

-- the reply, and what the lent number holds afterwards
pub record Conversion : Type 0 where
  pub reply : ℕ
  pub written : ℕ

-- no room is refusal 5, which leaves the lent number
abbrev pub conversion : Option ℕ → ℕ → Conversion
conversion (Some n) old = record { reply = 0; written = n }
conversion None old = record { reply = number_of NoRoom; written = old }
