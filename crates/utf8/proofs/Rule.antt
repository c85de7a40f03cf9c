-- The table of class numbers, and the law that it gives each first byte its class number: one test computed over all its entries.
use Prim.Native.Nat.{ℕ, zero, suc, ◌+◌, ◌≤◌, ◌<◌}
use native.Mathlib.Nat.{add-zero, zero-add, add-suc, suc-add, le_of_suc-le-suc, not-suc-le-zero}
use native.Mathlib.Omega.{arith}
use mathlib.Core.Path.{◌≡◌, refl, sym, ap, ◌∙◌}
use mathlib.Core.Bool.{Bool, true, ◌&&◌, and-eq-true_iff}
use mathlib.Core.List.{List, [], ◌∷◌, ◌++◌}
use lib.Dec.{leb, eqb}
use lib.ListN.{length, get_or, replicate}
use borrow.Author.Tests.{leb-true, eqb-true}
use Rattle.utf8.specs.Utf8.{Row, rows, no_row, number_of, class_at, Classes}

-- each entry is the class number of its place, counted from i
abbrev right : ℕ → List ℕ → Bool
right i [] = true
right i (x ∷ t) = eqb x (number_of i) && right (suc i) t

entry : (t : List ℕ) (i : ℕ) → right i t ≡ true → (k : ℕ) → k < length t → get_or t k 0 ≡ number_of (i + k)
entry [] i e k h = absurd (not-suc-le-zero h)
entry (x ∷ t) i e zero h = eqb-true x (number_of i) ((and-eq-true_iff (eqb x (number_of i)) (right (suc i) t)).0 e).0 ∙ ap number_of (sym (add-zero i))
entry (x ∷ t) i e (suc k) h =
    entry t (suc i) ((and-eq-true_iff (eqb x (number_of i)) (right (suc i) t)).0 e).1 k (le_of_suc-le-suc h) ∙ ap number_of (suc-add i k ∙ sym (add-suc i k))

-- the table that the code holds: 00..7F, then no row, C2..DF, E0, E1..EC, ED, EE..EF, F0, F1..F3, F4, then no row
abbrev table : List ℕ
table =
    replicate 128 0 ++ (replicate 66 9 ++ (replicate 30 1 ++ (2 ∷ (replicate 12 3 ++ (4 ∷ 5 ∷ 5 ∷ 6 ∷ 7 ∷ 7 ∷ 7 ∷ 8 ∷ replicate 11 9)))))

test : right 0 table ≡ true
unfolding number_of
test = refl

-- whoever lends the table cites this
pub class-table : Classes table
class-table = record { rule = λ b h. entry table 0 test b h ∙ ap number_of (zero-add b) }

-- a number that is not m, nor one below it
pub above : (m : ℕ) {k : ℕ} → m ≤ k → (k ≡ m → ⊥) → suc m ≤ k
above m h n = omega arith

-- ---- how many bytes follow a first byte

abbrev short : List Row → Bool
short [] = true
short (r ∷ rs) = leb r.says.more 3 && short rs

few-in : (rs : List Row) (k : ℕ) → short rs ≡ true → (get_or rs k no_row).says.more ≤ 3
few-in [] k e = omega arith
few-in (r ∷ rs) zero e = leb-true r.says.more 3 ((and-eq-true_iff (leb r.says.more 3) (short rs)).0 e).0
few-in (r ∷ rs) (suc k) e = few-in rs k ((and-eq-true_iff (leb r.says.more 3) (short rs)).0 e).1

-- never more than three
pub few-follow : (k : ℕ) → (class_at k).more ≤ 3
unfolding class_at
few-follow k = few-in rows k refl
