-- Laws of digits and signs: a byte by comparisons, and one law for each turn of a loop.
use Prim.Native.Nat.{ℕ, suc, ◌+◌, ◌-◌, ◌*◌, ◌^◌, ◌≤◌, ◌<◌}
use native.Mathlib.Omega.{arith}
use native.Mathlib.Numerals.{add-one}
use native.Mathlib.Nat.{pow-suc, pow-le-pow_right, mul-le-mul_right, mul_comm, mul_assoc}
use mathlib.Core.Path.{◌≡◌, refl}
use mathlib.Core.Bool.{Bool, true, false, cond, ◌&&◌, ◌||◌, and-eq-true_iff}
use Rattle.std.specs.Prelude.{Option, None, Some}
use mathlib.Core.List.{List, [], ◌∷◌}
use lib.ListN.{length, drop, get_or, drop_of_length-le}
use lib.Dec.{leb, ltb, eqb}
use lib.Seq.{drop-cons}
use borrow.Author.Tests.{le-leb, lt-leb, leb-true, lt-ltb}
use Rattle.lists.specs.Choice.{provided}
use Rattle.number.specs.Reading.{is_digit, digits_from, natural, unsigned}

-- ---- signs

pub unsigned_is : (s : List ℕ) → unsigned s ≡ cond (ltb 0 (length s) && (eqb (get_or s 0 0) 43 || eqb (get_or s 0 0) 45)) (drop 1 s) s
unfolding unsigned
unsigned_is [] = refl
unsigned_is (x ∷ s) = rw (lt-ltb 0 (suc (length s)) (omega arith))

-- ---- a loop at i with n read so far

pub natural-is : (s : List ℕ) → (length s ≡ 0 → ⊥) → natural s ≡ digits_from 0 s
unfolding natural
natural-is [] h = absurd (h refl)
natural-is (x ∷ s) h = refl

pub natural-none : (s : List ℕ) → length s ≡ 0 → natural s ≡ None
unfolding natural
natural-none [] h = refl
natural-none (x ∷ s) h = absurd (omega arith)

pub digits_step : (n : ℕ) (s : List ℕ) (i v : ℕ) → i < length s → is_digit (get_or s i 0) ≡ true → v ≡ get_or s i 0 - 48
    → digits_from n (drop i s) ≡ digits_from (n * 10 + v) (drop (i + 1) s)
unfolding digits_from
digits_step n s i v h e q =
    let k : 10 * n + (get_or s i 0 - 48) ≡ n * 10 + v = omega arith in
    rw (drop-cons s i 0 h, e, add-one, k)

pub digits-stop : (n : ℕ) (s : List ℕ) (i : ℕ) → i < length s → is_digit (get_or s i 0) ≡ false → digits_from n (drop i s) ≡ None
unfolding digits_from
digits-stop n s i h e = rw (drop-cons s i 0 h, e)

pub digits-end : (n : ℕ) (s : List ℕ) (i : ℕ) → length s ≤ i → digits_from n (drop i s) ≡ Some n
unfolding digits_from
digits-end n s i h = rw (drop_of_length-le s {i = i} h)

-- a number only grows
pub digits-grow : (n : ℕ) (s : List ℕ) (m : ℕ) → digits_from n s ≡ Some m → n ≤ m
unfolding digits_from
digits-grow n [] m e = let q : n ≡ m = cc in omega arith
digits-grow n (x ∷ s) m e = go (is_digit x) e (digits-grow (10 * n + (x - 48)) s m)
  where
    go : (t : Bool) → cond t (digits_from (10 * n + (x - 48)) s) None ≡ Some m → (digits_from (10 * n + (x - 48)) s ≡ Some m → 10 * n + (x - 48) ≤ m) → n ≤ m
    go true e f = let h : 10 * n + (x - 48) ≤ m = f e in omega arith
    go false e f = absurd (let z : ◌≡◌ {A = ℕ} 0 1 = cc in omega arith)

-- so that a loop may leave once it is past its limit
pub digits-over : (limit n : ℕ) (s : List ℕ) → limit < n → provided (λ k. leb k limit) (digits_from n s) ≡ None
digits-over limit n s h = go (digits_from n s) refl
  where
    go : (o : Option ℕ) → digits_from n s ≡ o → provided (λ k. leb k limit) o ≡ None
    go None e = refl
    go (Some m) e = let g : n ≤ m = digits-grow n s m e in rw (lt-leb m limit (omega arith))

pub digits-within : (limit n : ℕ) → n ≤ limit → provided (λ k. leb k limit) (Some n) ≡ Some n
digits-within limit n h = rw (le-leb n limit h)

-- ---- k digits stay below 10 to the power of k

digit-below : (x : ℕ) → is_digit x ≡ true → x - 48 ≤ 9
unfolding is_digit
digit-below x e = omega (arith, leb-true x 57 ((and-eq-true_iff (leb 48 x) (leb x 57)).0 e).1)

digits-below : (s : List ℕ) (n m : ℕ) → digits_from n s ≡ Some m → m < (n + 1) * 10 ^ length s
unfolding digits_from
digits-below [] n m e = let q : n ≡ m = cc in omega arith
digits-below (x ∷ s) n m e = go (is_digit x) refl e (digits-below s (10 * n + (x - 48)) m)
  where
    go : (t : Bool) → is_digit x ≡ t → cond t (digits_from (10 * n + (x - 48)) s) None ≡ Some m
        → (digits_from (10 * n + (x - 48)) s ≡ Some m → m < (10 * n + (x - 48) + 1) * 10 ^ length s)
        → m < (n + 1) * 10 ^ suc (length s)
    go true u e f =
        let d : x - 48 ≤ 9 = digit-below x u in
        let h : m < (10 * n + (x - 48) + 1) * 10 ^ length s = f e in
        let g : (10 * n + (x - 48) + 1) * 10 ^ length s ≤ (10 * (n + 1)) * 10 ^ length s = mul-le-mul_right (10 ^ length s) (omega arith) in
        let k : (10 * (n + 1)) * 10 ^ length s ≡ (n + 1) * 10 ^ suc (length s) = rw (pow-suc, mul_comm 10 (n + 1), mul_assoc, mul_comm 10 (10 ^ length s)) in
        omega arith
    go false u e f = absurd (let z : ◌≡◌ {A = ℕ} 0 1 = cc in omega arith)

pub natural-below : (s : List ℕ) (m k : ℕ) → length s ≤ k → natural s ≡ Some m → m < 10 ^ k
unfolding natural
natural-below [] m k h e = absurd (let z : ◌≡◌ {A = ℕ} 0 1 = cc in omega arith)
natural-below (x ∷ s) m k h e =
    let b : m < (0 + 1) * 10 ^ length (x ∷ s) = digits-below (x ∷ s) 0 m e in
    let p : 10 ^ length (x ∷ s) ≤ 10 ^ k = pow-le-pow_right {n = 10} (omega arith) h in
    omega arith

-- so a limit that k digits stay within takes nothing away
pub natural-fits : (s : List ℕ) (k limit : ℕ) → length s ≤ k → 10 ^ k ≤ limit + 1 → provided (λ n. leb n limit) (natural s) ≡ natural s
natural-fits s k limit h l = go (natural s) refl
  where
    go : (o : Option ℕ) → natural s ≡ o → provided (λ n. leb n limit) o ≡ o
    go None e = refl
    go (Some m) e = let b : m < 10 ^ k = natural-below s m k h e in rw (le-leb m limit (omega arith))
