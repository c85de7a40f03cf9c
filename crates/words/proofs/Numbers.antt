-- Laws of `number`: one for each turn of a loop at i, and numbers that are equal modulo m stay so.
use Prim.Native.Nat.{ℕ, ◌+◌, ◌*◌, ◌/◌, ◌%◌, ◌≤◌, ◌<◌}
use native.Mathlib.Numerals.{add-one}
use native.Mathlib.Nat.{mod-lt, mod-add-div, add-mul, mul_assoc, mul_comm, add-mul-mod_self_left, mul-le-mul_right}
use native.Mathlib.Omega.{arith}
use mathlib.Core.Path.{◌≡◌, sym, ap, ◌∙◌}
use mathlib.Core.List.{List, [], ◌∷◌}
use lib.ListN.{length, drop, get_or, drop_of_length-le}
use lib.Seq.{drop-cons}
use lib.Dec.{ltb}
use borrow.Author.Tests.{lt-ltb, le-ltb}
use Rattle.std.specs.Prelude.{Option, None, Some}
use Rattle.lists.specs.Choice.{found, provided}
use Rattle.words.specs.Words.{digit, number}

module _ (base n : ℕ) (s : List ℕ) (i : ℕ) where
  pub at-end : length s ≤ i → number base n (drop i s) ≡ n
  unfolding number
  at-end h = rw (drop_of_length-le s {i = i} h)

  pub none : i < length s → digit (get_or s i 0) ≡ None → number base n (drop i s) ≡ n
  unfolding number
  none h e = rw (drop-cons s i 0 h, e)

  module _ (d : ℕ) (h : i < length s) (e : digit (get_or s i 0) ≡ Some d) where
    pub other : base ≤ d → number base n (drop i s) ≡ n
    unfolding number
    other l = rw (drop-cons s i 0 h, e, le-ltb d base l)

    pub one_more : d < base → number base n (drop i s) ≡ number base (n * base + d) (drop (i + 1) s)
    unfolding number
    one_more l = rw (drop-cons s i 0 h, e, lt-ltb d base l, add-one)

-- all but the remainder of x counts nothing modulo m
front-off : (base m x d : ℕ) → (x * base + d) % m ≡ (x % m * base + d) % m
front-off base m x d =
    let f : x * base ≡ x % m * base + m * (x / m * base) = ap (λ (k : ℕ). k * base) (sym (mod-add-div x m)) ∙ rw (add-mul, mul_assoc) in
    let e : x * base + d ≡ x % m * base + d + m * (x / m * base) = omega arith in
    ap (λ (k : ℕ). k % m) e ∙ add-mul-mod_self_left (x % m * base + d) m (x / m * base)

pub alike : (base m : ℕ) (s : List ℕ) (x y : ℕ) → x % m ≡ y % m → number base x s % m ≡ number base y s % m
unfolding number
alike base m [] x y h = h
alike base m (c ∷ s) x y h = go (provided (λ (d : ℕ). ltb d base) (digit c)) (λ d. alike base m s (x * base + d) (y * base + d) (front-off base m x d ∙ rw h (sym (front-off base m y d))))
  where
    go : (t : Option ℕ) → ((d : ℕ) → number base (x * base + d) s % m ≡ number base (y * base + d) s % m)
        → found t x (λ d. number base (x * base + d) s) % m ≡ found t y (λ d. number base (y * base + d) s) % m
    go None e = h
    go (Some d) e = e d

module _ (base top n d : ℕ) where
  -- a loop may forget all but the last digits
  pub last_digits : (n * base + d) % (top * base) ≡ (n % top * base + d) % (top * base)
  last_digits =
      let f : n * base ≡ n % top * base + top * base * (n / top) =
      ap (λ (k : ℕ). k * base) (sym (mod-add-div n top)) ∙ rw (add-mul, mul_assoc top (n / top) base, mul_comm (n / top) base, ← mul_assoc top base (n / top)) in
      let e : n * base + d ≡ n % top * base + d + top * base * (n / top) = omega arith in
      ap (λ (k : ℕ). k % (top * base)) e ∙ add-mul-mod_self_left (n % top * base + d) (top * base) (n / top)

  pub room : 0 < top → d < base → n % top * base + d < top * base
  room p h =
      let l : (n % top + 1) * base ≤ top * base = mul-le-mul_right base (omega (arith, mod-lt n p)) in
      omega (arith, add-mul (n % top) 1 base)
