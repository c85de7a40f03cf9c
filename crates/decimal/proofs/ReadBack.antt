-- What is written reads back: digits, numbers with a sign, three digits.
use Prim.Native.Nat.{ℕ, zero, suc, ◌+◌, ◌/◌, ◌%◌, ◌^◌, ◌≤◌, ◌<◌}
use native.Mathlib.Omega.{arith}
use native.Mathlib.Nat.{add-zero, add-suc, suc-add, pow-le-pow_right}
use mathlib.Core.Path.{◌≡◌, refl, sym, ap, ◌∙◌}
use mathlib.Core.Logic.{◌≢◌}
use mathlib.Core.Bool.{Bool, true, false, cond}
use Rattle.std.specs.Prelude.{Some}
use mathlib.Core.List.{List, [], ◌∷◌, ◌++◌, append_assoc, append-nil}
use lib.ListN.{length}
use lib.Dec.{ltb}
use lib.IntN.{ℤ, pos, negsuc, nat_abs}
use lib.Signed.{mag, nat_abs-le}
use borrow.Author.Tests.{eq-eqb, le-leb, lt-leb, lt-ltb, ltb-false, ltb-true, ne_eqb}
use Rattle.lists.specs.Bytes.{all, among}
use Rattle.number.specs.Trim.{is_space, trim_left, keep, trim_right, trim}
use Rattle.number.specs.Fields.{before, behind}
use Rattle.number.specs.Reading.{is_digit, digits_from, natural, is_minus, unsigned, whole, i32, u8}
use Rattle.decimal.specs.Writing.{places, decimal, signed}
use Rattle.number.proofs.Digits.{natural-is}
use Rattle.decimal.proofs.Places.{length-places}

-- ---- digits and signs: no space, no comma, no point

pub record Mark (x : ℕ) : Type 0 where
  pub low : 43 ≤ x
  pub high : x ≤ 57
  pub no-comma : x ≢ 44
  pub no-point : x ≢ 46

abbrev pub Marks : List ℕ → Type 0
Marks [] = Unit {0}
Marks (x ∷ s) = Mark x × Marks s

pub marks-append : (a b : List ℕ) → Marks a → Marks b → Marks (a ++ b)
marks-append [] b m n = n
marks-append (x ∷ a) b (h, m) n = (h, marks-append a b m n)

pub marks-places : (k n : ℕ) → Marks (places k n)
unfolding places
marks-places zero n = tt
marks-places (suc k) n = marks-append (places k (n / 10)) _ (marks-places k (n / 10)) (omega arith)

marks-either : (t : Bool) (a b : List ℕ) → Marks a → Marks b → Marks (cond t a b)
marks-either true a b m n = m
marks-either false a b m n = n

pub marks-decimal : (k m n : ℕ) → Marks (decimal k m n)
unfolding decimal
marks-decimal k zero n = marks-places k n
marks-decimal k (suc m) n = marks-either (ltb n (10 ^ k)) _ _ (marks-places k n) (marks-decimal (suc k) m n)

pub marks-signed : (z : ℤ) → Marks (signed z)
unfolding signed
marks-signed (pos n) = (omega arith, marks-decimal 3 7 n)
marks-signed (negsuc n) = (omega arith, marks-decimal 3 7 (suc n))

-- c ends a field of marks
module _ (c : ℕ) (ends : (x : ℕ) → Mark x → x ≢ c) (b : List ℕ) where
  pub before-marks : (a : List ℕ) → Marks a → before c (a ++ (c ∷ b)) ≡ a
  unfolding before
  before-marks [] m = rw (eq-eqb c c refl)
  before-marks (x ∷ a) (h, m) = rw (ne_eqb x c (ends x h)) (ap (λ s. x ∷ s) (before-marks a m))

  pub behind-marks : (a : List ℕ) → Marks a → behind c (a ++ (c ∷ b)) ≡ Some b
  unfolding behind
  behind-marks [] m = rw (eq-eqb c c refl)
  behind-marks (x ∷ a) (h, m) = rw (ne_eqb x c (ends x h)) (behind-marks a m)

pub comma : (x : ℕ) → Mark x → x ≢ 44
comma x h = h.no-comma

mark-space : (x : ℕ) → Mark x → is_space x ≡ false
unfolding is_space
mark-space x h = rw (le-leb 9 x (omega arith), lt-leb x 13 (omega arith), ne_eqb x 32 (omega arith))

trim_left-marks : (s : List ℕ) → Marks s → trim_left s ≡ s
unfolding trim_left
trim_left-marks [] m = refl
trim_left-marks (x ∷ s) (h, m) = rw (mark-space x h)

trim_right-marks : (s : List ℕ) → Marks s → trim_right s ≡ s
unfolding trim_right keep
trim_right-marks [] m = refl
trim_right-marks (x ∷ []) (h, m) = rw (mark-space x h)
trim_right-marks (x ∷ y ∷ s) (h, m) = rw (trim_right-marks (y ∷ s) m)

pub trim-marks : (s : List ℕ) → Marks s → trim s ≡ s
unfolding trim
trim-marks s m = ap trim_right (trim_left-marks s m) ∙ trim_right-marks s m

-- ---- digits read back

places-read : (k n : ℕ) (s : List ℕ) → n < 10 ^ k → digits_from 0 (places k n ++ s) ≡ digits_from n s
unfolding places digits_from is_digit
places-read zero n s h = ap (λ m. digits_from m s) (omega arith)
places-read (suc k) n s h =
    let d : ℕ = 48 + n % 10 in
    rw (append_assoc, places-read k (n / 10) (d ∷ s) (omega arith), le-leb 48 d (omega arith), le-leb d 57 (omega arith))
    (ap (λ m. digits_from m s) (omega arith))

pub natural-places : (k n : ℕ) → 1 ≤ k → n < 10 ^ k → natural (places k n) ≡ Some n
unfolding digits_from
natural-places k n h b =
    natural-is (places k n) (λ e. absurd (omega (arith, length-places k n)))
    ∙ ap (λ s. digits_from 0 s) (sym (append-nil (places k n)))
    ∙ places-read k n [] b

pub natural-decimal : (k m n : ℕ) → 1 ≤ k → n < 10 ^ (k + m) → natural (decimal k m n) ≡ Some n
unfolding decimal
natural-decimal k zero n h b = natural-places k n h (rw add-zero at b)
natural-decimal k (suc m) n h b = go (ltb n (10 ^ k)) refl (natural-decimal (suc k) m n (omega arith) (rw (add-suc, ← suc-add) at b))
  where
    go : (t : Bool) → ltb n (10 ^ k) ≡ t → natural (decimal (suc k) m n) ≡ Some n → natural (cond t (places k n) (decimal (suc k) m n)) ≡ Some n
    go true e i = natural-places k n h (ltb-true n (10 ^ k) e)
    go false e i = i

-- ---- signed numbers read back

pub whole-signed : (z : ℤ) → nat_abs z < 10000000000 → whole (signed z) ≡ Some z
unfolding whole signed unsigned is_minus
whole-signed (pos n) h = rw (natural-decimal 3 7 n (omega arith) h)
whole-signed (negsuc n) h = rw (natural-decimal 3 7 (suc n) (omega arith) h)

pub i32-signed : (z : ℤ) → mag z < 2147483648 → i32 (signed z) ≡ Some z
unfolding i32
i32-signed z h =
    rw (trim-marks (signed z) (marks-signed z), whole-signed z (omega (arith, nat_abs-le z h)), lt-ltb (mag z) 2147483648 h)

-- ---- three digits read back

places-plain : (n : ℕ) → (is_minus (places 3 n) ≡ false) × (unsigned (places 3 n) ≡ places 3 n)
unfolding places is_minus unsigned
places-plain n =
    let d : ℕ = 48 + n / 10 / 10 % 10 in
    rw (ne_eqb d 43 (omega arith), ne_eqb d 45 (omega arith)) (refl, refl)

pub u8-places : (n : ℕ) → n < 256 → u8 (places 3 n) ≡ Some n
unfolding u8
u8-places n h =
    rw (trim-marks (places 3 n) (marks-places 3 n), (places-plain n).0, (places-plain n).1, natural-places 3 n (omega arith) (omega arith), le-leb n 255 (omega arith))

pub i32-places : (n : ℕ) → n < 256 → i32 (places 3 n) ≡ Some (pos n)
unfolding i32 whole
i32-places n h =
    rw (trim-marks (places 3 n) (marks-places 3 n), (places-plain n).0, (places-plain n).1, natural-places 3 n (omega arith) (omega arith), lt-ltb n 2147483648 (omega arith))

-- ---- lengths

pub length-decimal : (k m n : ℕ) → length (decimal k m n) ≤ k + m
unfolding decimal
length-decimal k zero n = omega (arith, length-places k n)
length-decimal k (suc m) n = go (ltb n (10 ^ k)) (length-decimal (suc k) m n)
  where
    go : (t : Bool) → length (decimal (suc k) m n) ≤ suc k + m → length (cond t (places k n) (decimal (suc k) m n)) ≤ k + suc m
    go true h = omega (arith, length-places k n)
    go false h = omega arith

-- ---- a number below 10 ^ j is written with j digits at the most

wider : (j k n : ℕ) → 10 ^ k ≤ n → n < 10 ^ j → k < j
wider j k n h b = go (ltb k j) refl
  where
    go : (t : Bool) → ltb k j ≡ t → k < j
    go true e = ltb-true k j e
    go false e = omega (arith, pow-le-pow_right {n = 10} (omega arith) (ltb-false k j e))

pub digits-at-most : (j k m n : ℕ) → k ≤ j → n < 10 ^ j → length (decimal k m n) ≤ j
unfolding decimal
digits-at-most j k zero n h b = omega (arith, length-places k n)
digits-at-most j k (suc m) n h b = go (ltb n (10 ^ k)) refl (λ i. digits-at-most j (suc k) m n i b)
  where
    go : (t : Bool) → ltb n (10 ^ k) ≡ t → (suc k ≤ j → length (decimal (suc k) m n) ≤ j) → length (cond t (places k n) (decimal (suc k) m n)) ≤ j
    go true e f = omega (arith, length-places k n)
    go false e f = f (wider j k n (ltb-false n (10 ^ k) e) b)

-- ---- bytes of hex 20..7E

abbrev pub Plain : List ℕ → Type 0
Plain s = all (among 32 126) s ≡ true

pub plain-before : (a b : List ℕ) → Marks a → Plain b → Plain (a ++ b)
unfolding all
plain-before [] b m q = q
plain-before (x ∷ a) b (h, m) q = rw (le-leb 32 x (omega arith), le-leb x 126 (omega arith)) (plain-before a b m q)

pub plain-marks : (s : List ℕ) → Marks s → Plain s
unfolding all
plain-marks s m = rw append-nil at (plain-before s [] m refl)
