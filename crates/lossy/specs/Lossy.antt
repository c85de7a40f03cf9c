-- The conversion of a text by the Unicode standard, section 3.9, "substitution of maximal subparts": U+FFFD for each ill-formed part.
use Rattle.std.specs.Prelude.{ℕ, zero, suc, List, [], ◌∷◌, ◌++◌, take}
use Rattle.utf8.specs.declared.Part.{Part}
use Rattle.utf8.specs.declared.Part.TheVariants.{Good, Bad, End}
use Rattle.utf8.specs.Utf8.{step_of, size, after}

-- U+FFFD, which stands for an ill-formed part
abbrev pub mark : List ℕ
mark = 0xEF ∷ 0xBF ∷ 0xBD ∷ []

-- what becomes of the first part of s
abbrev pub text_of : Part → List ℕ → List ℕ
text_of (Good n) s = take n s
text_of (Bad n) s = mark
text_of End s = []

-- the text behind its first k bytes, which belong to a step that was taken
unfoldable pub lossy_from : ℕ → List ℕ → List ℕ
lossy_from k [] = []
lossy_from (suc k) (b ∷ s) = lossy_from k s
lossy_from zero (b ∷ s) = let x = step_of (b ∷ s) in text_of x (b ∷ s) ++ lossy_from (after (size x)) s

-- the text with a mark for each ill-formed part
unfoldable pub lossy : List ℕ → List ℕ
lossy s = lossy_from 0 s
