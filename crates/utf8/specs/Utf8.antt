-- UTF-8 by the Unicode standard: table 3-7 (well-formed byte sequences), and D93b (maximal subparts).
use Rattle.std.specs.Prelude.{ℕ, zero, suc, ◌≤◌, ◌<◌, ◌≡◌, ◌⊎◌, Bool, true, false, ◌&&◌, cond, List, [], ◌∷◌, ◌++◌, length, get_or, take, drop, ltb, eqb}
use Rattle.lists.specs.Bytes.{among, all}
use Rattle.utf8.specs.declared.Part.{Part}
use Rattle.utf8.specs.declared.Part.TheVariants.{Good, Bad, End}

-- ---- table 3-7

-- what a first byte says: how many bytes follow it, and from which to which the next one lies
pub record Class : Type 0 where
  pub more : ℕ
  pub low : ℕ
  pub high : ℕ

-- a class, written in one line
abbrev pub class : ℕ → ℕ → ℕ → Class
class more low high = record { more = more; low = low; high = high }

-- a row: the first bytes from here to there say the same
pub record Row : Type 0 where
  pub from : ℕ
  pub to : ℕ
  pub says : Class

-- a row, written in one line
abbrev pub row : ℕ → ℕ → Class → Row
row from to says = record { from = from; to = to; says = says }

-- the table, row by row
abbrev pub rows : List Row
rows =
    row 0x00 0x7F (class 0 0x80 0xBF)
    ∷ row 0xC2 0xDF (class 1 0x80 0xBF)
    ∷ row 0xE0 0xE0 (class 2 0xA0 0xBF)
    ∷ row 0xE1 0xEC (class 2 0x80 0xBF)
    ∷ row 0xED 0xED (class 2 0x80 0x9F)
    ∷ row 0xEE 0xEF (class 2 0x80 0xBF)
    ∷ row 0xF0 0xF0 (class 3 0x90 0xBF)
    ∷ row 0xF1 0xF3 (class 3 0x80 0xBF)
    ∷ row 0xF4 0xF4 (class 3 0x80 0x8F)
    ∷ []

-- no row: such a byte begins no character; one byte is to follow it, and none will do
abbrev pub no_row : Row
no_row = row 1 0 (class 1 1 0)

-- the number of the row that has b, counted from 0; where there is none, the number of rows
abbrev pub number_in : List Row → ℕ → ℕ
number_in [] b = 0
number_in (r ∷ rs) b = cond (among r.from r.to b) 0 (suc (number_in rs b))

-- the class number of a first byte
unfoldable pub number_of : ℕ → ℕ
number_of b = number_in rows b

-- what the class of this number says
unfoldable pub class_at : ℕ → Class
class_at k = (get_or rows k no_row).says

-- t gives each first byte its class number
pub record Classes (t : List ℕ) : Type 0 where
  pub rule : (b : ℕ) → b < 256 → get_or t b 0 ≡ number_of b

-- ---- one step: what stands at the front of a text

-- the text begins with a byte from low to high
abbrev pub begins : ℕ → ℕ → List ℕ → Bool
begins low high [] = false
begins low high (b ∷ s) = among low high b

-- how many of the next n bytes are there: the first from low to high, each later one from 80 to BF
unfoldable pub run : ℕ → ℕ → ℕ → List ℕ → ℕ
run zero low high s = 0
run (suc n) low high s = cond (begins low high s) (suc (run n 0x80 0xBF (drop 1 s))) 0

-- n bytes follow: all that are to follow make a character, fewer a maximal subpart
abbrev pub judged : ℕ → ℕ → Part
judged more n = cond (eqb n more) (Good (suc n)) (Bad (suc n))

-- what the bytes behind a first byte of this class make of it
abbrev pub follow : Class → List ℕ → Part
follow c s = judged c.more (run c.more c.low c.high s)

-- the first part of a text
unfoldable pub step_of : List ℕ → Part
step_of [] = End
step_of (b ∷ s) = follow (class_at (number_of b)) s

-- how many bytes it has
abbrev pub size : Part → ℕ
size (Good n) = n
size (Bad n) = n
size End = 0

-- one less: how many bytes stand behind the first
abbrev pub after : ℕ → ℕ
after zero = 0
after (suc n) = n

-- ---- a text: one step after the other

-- no ill-formed part
abbrev pub whole : Part → Bool
whole (Good n) = true
whole (Bad n) = false
whole End = true

-- behind the first k bytes, which belong to a step that was taken, no part is ill-formed
unfoldable pub valid_from : ℕ → List ℕ → Bool
valid_from k [] = true
valid_from (suc k) (b ∷ s) = valid_from k s
valid_from zero (b ∷ s) = let x = step_of (b ∷ s) in whole x && valid_from (after (size x)) s

-- the text is well-formed UTF-8
unfoldable pub valid : List ℕ → Bool
valid s = valid_from 0 s

-- every byte is ASCII
abbrev pub plain : List ℕ → Bool
plain s = all (λ (b : ℕ). ltb b 0x80) s

-- ---- D93b, maximal subpart

-- one character, whole
abbrev pub WellFormed : List ℕ → Type 0
WellFormed w = step_of w ≡ Good (length w)

-- p is an initial part of a well-formed sequence
abbrev pub Initial : List ℕ → Type 0
Initial p = (t : List ℕ) × WellFormed (p ++ t)

-- the first n bytes of s: one byte, or an initial part of a well-formed sequence; and no longer front of s is one
pub record Maximal (s : List ℕ) (n : ℕ) : Type 0 where
  pub inside : n ≤ length s
  pub begins-one : (n ≡ 1) ⊎ Initial (take n s)
  pub longest : (m : ℕ) → n < m → m ≤ length s → Initial (take m s) → ⊥
