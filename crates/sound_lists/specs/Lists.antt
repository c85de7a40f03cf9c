-- Gains that are taken from a list one after another, and gains that are put into one.
use Rattle.std.specs.Prelude.{ℕ, ◌+◌, List, [], ◌∷◌, length, set}
use Rattle.layer3.specs.Bits.{write_bits}
use Rattle.layer3.specs.Fields.{read_left, read_right}
use Rattle.layer3.specs.Walk.{walk, fields_of}

-- the first gain of a list put into the field at bit o; nothing where there is none
abbrev pub put_first : List ℕ → ℕ → List ℕ → List ℕ
put_first s o [] = s
put_first s o (g ∷ gs) = write_bits s o g

-- the gains behind it
abbrev pub behind : List ℕ → List ℕ
behind [] = []
behind (g ∷ gs) = gs

-- gains stored in out one after another from place i, as far as it reaches
unfoldable pub filled : List ℕ → ℕ → List ℕ → List ℕ
filled out i [] = out
filled out i (g ∷ gs) = filled (set out i g) (i + 1) gs

-- the gains of the frames from a place on
abbrev pub lefts_from : List ℕ → ℕ → List ℕ
lefts_from s at = read_left (fields_of (walk (length s) s at)) s

abbrev pub rights_from : List ℕ → ℕ → List ℕ
rights_from s at = read_right (fields_of (walk (length s) s at)) s
