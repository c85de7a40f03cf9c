-- A text cut at a byte.
use Rattle.std.specs.Prelude.{ℕ, zero, suc, cond, List, [], ◌∷◌, eqb}
use Rattle.std.specs.Prelude.{Option, None, Some}
use Rattle.lists.specs.Choice.{found}

-- what stands before the first c: all, if there is none
unfoldable pub before : ℕ → List ℕ → List ℕ
before c [] = []
before c (x ∷ s) = cond (eqb x c) [] (x ∷ before c s)

-- what stands after the first c
unfoldable pub behind : ℕ → List ℕ → Option (List ℕ)
behind c [] = None
behind c (x ∷ s) = cond (eqb x c) (Some s) (behind c s)

-- field n of the fields between commas; one that is not there counts as empty
unfoldable pub field : ℕ → List ℕ → List ℕ
field zero s = before 0x2C s
field (suc n) s = found (behind 0x2C s) [] (λ r. field n r)
