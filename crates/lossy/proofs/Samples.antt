-- Worked examples of `lossy`: the Unicode standard's (section 3.9, D93b and tables 3-8 to 3-11), and some more.
use Prim.Native.Nat.{ℕ, zero, suc}
use mathlib.Core.Path.{◌≡◌, refl}
use mathlib.Core.Bool.{true, false}
use mathlib.Core.List.{List, [], ◌∷◌, ◌++◌}
use Rattle.utf8.specs.Utf8.{number_of, class_at, run, step_of, valid_from, valid}
use Rattle.lossy.specs.Lossy.{lossy_from, lossy, mark}

-- n marks, then s
abbrev marks : ℕ → List ℕ → List ℕ
marks zero s = s
marks (suc n) s = mark ++ marks n s

-- D93b: maximal subparts
pub subparts : lossy (0x61 ∷ 0xF1 ∷ 0x80 ∷ 0x80 ∷ 0xE1 ∷ 0x80 ∷ 0xC2 ∷ 0x62 ∷ 0x80 ∷ 0x63 ∷ 0x80 ∷ 0xBF ∷ 0x64 ∷ [])
    ≡ 0x61 ∷ marks 3 (0x62 ∷ marks 1 (0x63 ∷ marks 2 (0x64 ∷ [])))
unfolding lossy lossy_from step_of run class_at number_of
subparts = refl

-- table 3-8: forms that are not the shortest; 3-9: surrogates; 3-10: past 10FFFF, and bytes that begin nothing; 3-11: cut off
pub tables :
    (lossy (0xC0 ∷ 0xAF ∷ 0xE0 ∷ 0x80 ∷ 0xBF ∷ 0xF0 ∷ 0x81 ∷ 0x82 ∷ 0x41 ∷ []) ≡ marks 8 (0x41 ∷ []))
    × (lossy (0xED ∷ 0xA0 ∷ 0x80 ∷ 0xED ∷ 0xBF ∷ 0xBF ∷ 0xED ∷ 0xAF ∷ 0x41 ∷ []) ≡ marks 8 (0x41 ∷ []))
    × (lossy (0xF4 ∷ 0x91 ∷ 0x92 ∷ 0x93 ∷ 0xFF ∷ 0x41 ∷ 0x80 ∷ 0xBF ∷ 0x42 ∷ []) ≡ marks 5 (0x41 ∷ marks 2 (0x42 ∷ [])))
    × (lossy (0xE1 ∷ 0x80 ∷ 0xE2 ∷ 0xF0 ∷ 0x91 ∷ 0x92 ∷ 0xF1 ∷ 0xBF ∷ 0x41 ∷ []) ≡ marks 4 (0x41 ∷ []))
unfolding lossy lossy_from step_of run class_at number_of
tables = (refl, refl, refl, refl)

pub short :
    (lossy (0xE2 ∷ 0x82 ∷ 0x41 ∷ []) ≡ marks 1 (0x41 ∷ []))
    × (lossy (0xF0 ∷ 0x80 ∷ []) ≡ marks 2 [])
    × (lossy (0xF0 ∷ 0x90 ∷ 0x80 ∷ []) ≡ marks 1 [])
    × (lossy (0xED ∷ 0xA0 ∷ 0x80 ∷ []) ≡ marks 3 [])
    × (lossy (0xF4 ∷ 0x90 ∷ 0x80 ∷ 0x80 ∷ []) ≡ marks 4 [])
    × (lossy (0xC3 ∷ 0x28 ∷ []) ≡ marks 1 (0x28 ∷ []))
    × (lossy (0xE0 ∷ 0x80 ∷ []) ≡ marks 2 [])
unfolding lossy lossy_from step_of run class_at number_of
short = (refl, refl, refl, refl, refl, refl, refl)

-- one character of each length, and the last one, are themselves; what is cut off is not valid
pub whole-ones :
    (lossy (0x41 ∷ 0xC3 ∷ 0xA9 ∷ 0xE2 ∷ 0x82 ∷ 0xAC ∷ 0xF0 ∷ 0x9F ∷ 0x98 ∷ 0x80 ∷ 0xF4 ∷ 0x8F ∷ 0xBF ∷ 0xBF ∷ []) ≡ 0x41 ∷ 0xC3 ∷ 0xA9 ∷ 0xE2 ∷ 0x82 ∷ 0xAC ∷ 0xF0 ∷ 0x9F ∷ 0x98 ∷ 0x80 ∷ 0xF4 ∷ 0x8F ∷ 0xBF ∷ 0xBF ∷ [])
    × (valid (0x41 ∷ 0xC3 ∷ 0xA9 ∷ 0xE2 ∷ 0x82 ∷ 0xAC ∷ 0xF0 ∷ 0x9F ∷ 0x98 ∷ 0x80 ∷ 0xF4 ∷ 0x8F ∷ 0xBF ∷ 0xBF ∷ []) ≡ true)
    × (valid (0xE2 ∷ 0x82 ∷ []) ≡ false)
    × (valid (0xC1 ∷ 0x80 ∷ []) ≡ false)
unfolding lossy lossy_from valid valid_from step_of run class_at number_of
whole-ones = (refl, refl, refl, refl)
