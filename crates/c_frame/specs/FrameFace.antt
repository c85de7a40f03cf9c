-- What the faces of crate frame answer and leave in their lent numbers.
use Rattle.std.specs.Prelude.{ℕ, ◌+◌, Bool, true, false, cond, List, length, leb, Option, None, Some}
use Rattle.lists.specs.Le.{read_u32}
use Rattle.replies.specs.Limits.{file_limit}
use Rattle.replies.specs.Refusal.{number_of}
use Rattle.replies.specs.declared.Refusal.TheVariants.{FileTooLong}
use Rattle.frame.specs.Tail.{tag_start, sound_end}

-- is a whole number there, and which; where none is, the lent number stays
pub record Read : Type 0 where
  pub there : Bool
  pub value : ℕ

-- from the bytes, the place, and what the lent number held
abbrev pub read : List ℕ → ℕ → ℕ → Read
read s at old = cond (leb (at + 4) (length s)) (record { there = true; value = read_u32 s at }) (record { there = false; value = old })

-- the reply, and what the two lent numbers hold afterwards
pub record Start : Type 0 where
  pub reply : ℕ
  pub there : ℕ
  pub start : ℕ

-- from the answer of the search: no start leaves zeros
abbrev pub answered : Option ℕ → Start
answered (Some n) = record { reply = 0; there = 1; start = n }
answered None = record { reply = 0; there = 0; start = 0 }

-- refusal 1 leaves the lent numbers
abbrev pub start_face : List ℕ → ℕ → ℕ → ℕ → Start
start_face s footer there start =
    cond (leb (length s) file_limit) (answered (tag_start s footer)) (record { reply = number_of FileTooLong; there = there; start = start })

-- the reply, and what the lent number holds afterwards
pub record End : Type 0 where
  pub reply : ℕ
  pub end : ℕ

-- refusal 1 leaves the lent number
abbrev pub end_face : List ℕ → ℕ → End
end_face s end = cond (leb (length s) file_limit) (record { reply = 0; end = sound_end s }) (record { reply = number_of FileTooLong; end = end })
