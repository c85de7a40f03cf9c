-- Peak texts, and how they move with the gains (document 02, request 7).
use Rattle.std.specs.Prelude.{ℕ, zero, suc, ◌+◌, ◌-◌, ◌*◌, ◌/◌, ◌%◌, ◌^◌, ◌≤◌, ◌<◌, Bool, ◌&&◌, cond, ◌≡◌, List, ◌∷◌, ◌++◌, length, leb, ltb, eqb, ℤ, pos}
use Rattle.std.specs.Prelude.{Option, None, Some, option_map}
use Rattle.std.specs.Float.Ieee.{up, down}
use Rattle.lists.specs.Choice.{found, provided}
use Rattle.number.specs.Fields.{before, behind}
use Rattle.number.specs.Reading.{natural}
use Rattle.decimal.specs.Writing.{places, decimal}

-- ---- counts of millionths

-- n is nearest to p times 2 to the power s / 4, a half going up: that number, doubled, lies from 2n - 1 to below 2n + 1.
-- Said of fourth powers, for every s: 2 to the power s is the fraction `up s` / `down s`.
pub record Nearest (p : ℕ) (s : ℤ) (n : ℕ) : Type 0 where
  -- no number lies below 0, so 0 has no lower end
  pub low : 0 < n → (2 * n - 1) ^ 4 * down s ≤ (2 * p) ^ 4 * up s
  pub high : (2 * p) ^ 4 * up s < (2 * n + 1) ^ 4 * down s

-- is n - 1/2 at most p times 2 to the power s / 4?
unfoldable pub reaches : ℕ → ℤ → ℕ → Bool
reaches p s n = leb ((2 * n - 1) ^ 4 * down s) ((2 * p) ^ 4 * up s)

-- the largest number from r that passes a test, by its last k binary digits: a digit is 1 if the test still passes
unfoldable pub largest : (ℕ → Bool) → ℕ → ℕ → ℕ
largest test zero r = r
largest test (suc k) r = largest test k (cond (test (r + 2 ^ k)) (r + 2 ^ k) r)

-- the new count of p millionths: the largest number of 27 binary digits that is reached, as 100,000,000 has 27
unfoldable pub new_count : ℤ → ℕ → ℕ
new_count s p = largest (reaches p s) 27 0

-- ---- texts

-- 1 or 2 digits, a point and 6 digits, without sign: as millionths; no digits are no number
unfoldable pub parse_peak : List ℕ → Option ℕ
parse_peak text =
    found (behind 0x2E text) None (λ t.
    cond (leb (length (before 0x2E text)) 2 && eqb (length t) 6)
    (found (natural (before 0x2E text)) None (λ a. option_map (λ b. a * 1000000 + b) (natural t)))
    None)

-- one digit before the point, or two where the first is not 0
unfoldable pub format_peak : ℕ → List ℕ
format_peak n = decimal 1 1 (n / 1000000) ++ (0x2E ∷ places 6 (n % 1000000))

-- a count that a text of this form can hold
abbrev pub fits_text : ℕ → Bool
fits_text n = ltb n 100000000

-- the new text; a text of another form stays as found, and so does one whose new count is 100,000,000 or more
unfoldable pub shift_peak : ℤ → List ℕ → Option (List ℕ)
shift_peak s text = option_map format_peak (provided fits_text (option_map (new_count s) (parse_peak text)))

-- ---- what is claimed of the new text

-- w is the new text of `text`: that of the nearest count
pub record MovedTo (s : ℤ) (text w : List ℕ) : Type 0 where
  pub old : ℕ
  pub new : ℕ
  pub read : parse_peak text ≡ Some old
  pub nearest : Nearest old s new
  pub fits : new < 100000000
  pub written : w ≡ format_peak new

-- proved as one theorem, `peaks` in proofs/Unique.antt
pub record Peaks : Type 0 where
  -- at most one number is nearest
  pub one : (p : ℕ) (s : ℤ) (m n : ℕ) → Nearest p s m → Nearest p s n → m ≡ n
  -- a new text is that of the nearest count, and the text of a nearest count below 100,000,000 is the new one
  pub to : (s : ℤ) (text w : List ℕ) → shift_peak s text ≡ Some w → MovedTo s text w
  pub from : (s : ℤ) (text w : List ℕ) → MovedTo s text w → shift_peak s text ≡ Some w
  -- no steps leave the count; the new text has the form and the new count
  pub no_steps : (text : List ℕ) (p : ℕ) → parse_peak text ≡ Some p → shift_peak (pos 0) text ≡ Some (format_peak p)
  pub back : (n : ℕ) → n < 100000000 → parse_peak (format_peak n) ≡ Some n
