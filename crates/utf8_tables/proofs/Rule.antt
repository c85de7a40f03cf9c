-- The rule of a table of class numbers: one test over all its entries, and one law.
use Prim.Native.Nat.{ℕ, zero, suc, ◌+◌, ◌<◌}
use native.Mathlib.Nat.{add-zero, zero-add, add-suc, suc-add, le_of_suc-le-suc, not-suc-le-zero}
use mathlib.Core.Path.{◌≡◌, sym, ap, ◌∙◌}
use mathlib.Core.Bool.{Bool, true, ◌&&◌, and-eq-true_iff}
use mathlib.Core.List.{List, [], ◌∷◌}
use lib.Dec.{eqb}
use lib.ListN.{length, get_or}
use borrow.Author.Tests.{eqb-true}
use Rattle.utf8.specs.Utf8.{number_of, Classes}

-- each entry is the class number of its place, counted from i
abbrev pub right : ℕ → List ℕ → Bool
right i [] = true
right i (x ∷ t) = eqb x (number_of i) && right (suc i) t

entry : (t : List ℕ) (i : ℕ) → right i t ≡ true → (k : ℕ) → k < length t → get_or t k 0 ≡ number_of (i + k)
entry [] i e k h = absurd (not-suc-le-zero h)
entry (x ∷ t) i e zero h = eqb-true x (number_of i) ((and-eq-true_iff (eqb x (number_of i)) (right (suc i) t)).0 e).0 ∙ ap number_of (sym (add-zero i))
entry (x ∷ t) i e (suc k) h =
    entry t (suc i) ((and-eq-true_iff (eqb x (number_of i)) (right (suc i) t)).0 e).1 k (le_of_suc-le-suc h) ∙ ap number_of (suc-add i k ∙ sym (add-suc i k))

-- a table of 256 entries that passes the test gives each first byte its class number
pub classes : (t : List ℕ) → length t ≡ 256 → right 0 t ≡ true → Classes t
classes t l e = record { rule = λ b h. entry t 0 e b (rw l h) ∙ ap number_of (zero-add b) }
