-- Spaces at the ends of a text (document 01, "Numbers in tags").
use Rattle.std.specs.Prelude.{ℕ, Bool, ◌||◌, cond, List, [], ◌∷◌, eqb}
use Rattle.lists.specs.Bytes.{among}

-- hex 09..0D and 20
unfoldable pub is_space : ℕ → Bool
is_space x = among 0x09 0x0D x || eqb x 0x20

-- s without the spaces in front
unfoldable pub trim_left : List ℕ → List ℕ
trim_left [] = []
trim_left (x ∷ s) = cond (is_space x) (trim_left s) (x ∷ s)

-- x in front of s; a space before nothing is not kept
unfoldable pub keep : ℕ → List ℕ → List ℕ
keep x [] = cond (is_space x) [] (x ∷ [])
keep x (y ∷ s) = x ∷ y ∷ s

-- s without the spaces at its end
unfoldable pub trim_right : List ℕ → List ℕ
trim_right [] = []
trim_right (x ∷ s) = keep x (trim_right s)

-- s without the spaces at both ends
unfoldable pub trim : List ℕ → List ℕ
trim s = trim_right (trim_left s)
