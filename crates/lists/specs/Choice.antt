-- Answers that may be missing.
use Rattle.std.specs.Prelude.{Bool, true, false, cond}
use Rattle.std.specs.Prelude.{Option, None, Some}

-- an answer taken apart: what stands for none, and what is made of what was found
abbrev pub found : {A B : Type 0} → Option A → B → (A → B) → B
found None b f = b
found (Some a) b f = f a

-- an answer kept only if it passes the test
abbrev pub provided : {A : Type 0} → (A → Bool) → Option A → Option A
provided p None = None
provided p (Some a) = cond (p a) (Some a) None

-- is there an answer?
abbrev pub is_some : {A : Type 0} → Option A → Bool
is_some None = false
is_some (Some a) = true
