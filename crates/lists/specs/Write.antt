-- What a lent output holds after bytes were written into it.
use Rattle.std.specs.Prelude.{ℕ, ◌+◌, ◌-◌, List, ◌++◌, length, take, drop}

-- out with w written at its front
abbrev pub over : List ℕ → List ℕ → List ℕ
over w out = w ++ drop (length w) out

-- out with w written into it from at
abbrev pub splice : List ℕ → ℕ → List ℕ → List ℕ
splice out at w = (take at out ++ w) ++ drop (at + length w) out

-- what stands in s from one place up to another
abbrev pub part : ℕ → ℕ → List ℕ → List ℕ
part from to s = take (to - from) (drop from s)
