-- What a conversion writes.
use Rattle.std.specs.Prelude.{ℕ, cond, List, [], ltb, length}
use Rattle.std.specs.Prelude.{Option, None, Some}

-- w, where there is room for it
abbrev pub within : ℕ → List ℕ → Option (List ℕ)
within room w = cond (ltb room (length w)) None (Some w)

-- the bytes written
abbrev pub bytes : Option (List ℕ) → List ℕ
bytes None = []
bytes (Some w) = w
