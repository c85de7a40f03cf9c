-- The new count is the nearest whole number, and there is one such number.
use Prim.Native.Nat.{ℕ, ◌+◌, ◌-◌, ◌*◌, ◌^◌, ◌≤◌, ◌<◌}
use native.Mathlib.Omega.{arith}
use native.Mathlib.Nat.{le_trans, lt_of_lt_of_le, lt_irrefl, mul-le-mul_right, mul-one, pow-le-pow_left, pow-lt-pow_left}
use mathlib.Core.Path.{◌≡◌, refl, sym}
use mathlib.Core.Bool.{Bool, true, false, cond}
use Rattle.std.proofs.lemmas.Option.{none-some}
use Rattle.std.specs.Prelude.{Option, None, Some, option_map}
use mathlib.Core.List.{List}
use lib.Dec.{ltb}
use lib.IntN.{ℤ, pos}
use lib.Ieee.{up, down}
use borrow.Author.Tests.{leb-true, leb-false, ltb-true, ltb-false, lt-ltb}
use Rattle.integers.proofs.Sign.{cases}
use Rattle.lists.specs.Choice.{provided}
use Rattle.peaks.specs.Peak.{Nearest, reaches, new_count, parse_peak, format_peak, fits_text, shift_peak, MovedTo, Peaks}
use Rattle.peaks.proofs.Counts.{Top, top}
use Rattle.peaks.proofs.Texts.{peak-below, peak-back}

module _ (p : ℕ) (s : ℤ) where
  -- n is reached, and m, which is less, is too large a bound
  clash : (m n : ℕ) → m < n → (2 * p) ^ 4 * up s < (2 * m + 1) ^ 4 * down s → (2 * n - 1) ^ 4 * down s ≤ (2 * p) ^ 4 * up s → ⊥
  clash m n l h k =
      let o : 2 * m + 1 ≤ 2 * n - 1 = omega arith in
      lt_irrefl _ (lt_of_lt_of_le h (le_trans (mul-le-mul_right (down s) (pow-le-pow_left o 4)) k))

  not-less : {m n : ℕ} → Nearest p s m → Nearest p s n → n ≤ m
  not-less {m} {n} x y = cases (ltb m n) (λ t. absurd (clash m n (ltb-true m n t) x.high (y.low (omega (arith, ltb-true m n t))))) (λ t. ltb-false m n t)

  -- there is one nearest number
  pub one-nearest : {m n : ℕ} → Nearest p s m → Nearest p s n → m ≡ n
  one-nearest {m} {n} x y = omega (arith, not-less x y, not-less y x)

  found : Top (reaches p s) 27 0 (new_count s p)
  unfolding new_count
  found = top (reaches p s) 27 0

  -- the new count is it, where it is below the last number of 27 digits
  pub count-nearest : new_count s p < 134217727 → Nearest p s (new_count s p)
  unfolding reaches
  count-nearest h = record {
    low = λ l. leb-true _ _ (found.passes l);
    high = let e : 2 * (new_count s p + 1) - 1 ≡ 2 * new_count s p + 1 = omega arith in rw (← e) (leb-false _ _ (found.next (omega arith)));
  }

  -- and every nearest number below that one is the new count
  pub nearest-count : {n : ℕ} → Nearest p s n → n < 134217727 → new_count s p ≡ n
  unfolding reaches
  nearest-count {n} x h = cases (ltb (new_count s p) 134217727)
      (λ t. one-nearest (count-nearest (ltb-true (new_count s p) 134217727 t)) x)
      (λ t. absurd (clash n (new_count s p) (omega (arith, ltb-false (new_count s p) 134217727 t)) x.high (leb-true _ _ (found.passes (omega (arith, ltb-false (new_count s p) 134217727 t))))))

-- no steps leave the count as it was
unmoved : (p : ℕ) → Nearest p (pos 0) p
unmoved p = record {
  low = λ l. let o : 2 * p - 1 ≤ 2 * p = omega arith in mul-le-mul_right 1 (pow-le-pow_left o 4);
  high = let o : 2 * p < 2 * p + 1 = omega arith in rw (mul-one ((2 * p) ^ 4), mul-one ((2 * p + 1) ^ 4)) (pow-lt-pow_left o (λ e. omega arith));
}

-- ---- the text of the nearest count, and of no other

-- a text that moved has a count, and its new count has a text
module _ (s : ℤ) (text w : List ℕ) where
  taken : (p : ℕ) → parse_peak text ≡ Some p → (new_count s p < 100000000) → Some (format_peak (new_count s p)) ≡ Some w → MovedTo s text w
  taken p e h f = record { old = p; new = new_count s p; read = e; nearest = count-nearest p s (omega arith); fits = h; written = let g : format_peak (new_count s p) ≡ w = cc in sym g }

  pub moved_to : shift_peak s text ≡ Some w → MovedTo s text w
  unfolding shift_peak
  moved_to e = go (parse_peak text) refl e
    where
      under : (p : ℕ) → parse_peak text ≡ Some p → (b : Bool) → ltb (new_count s p) 100000000 ≡ b
          → option_map format_peak (cond b (Some (new_count s p)) None) ≡ Some w → MovedTo s text w
      under p f true t e = taken p f (ltb-true (new_count s p) 100000000 t) e
      under p f false t e = absurd (none-some w e)

      go : (o : Option ℕ) → parse_peak text ≡ o → option_map format_peak (provided fits_text (option_map (new_count s) o)) ≡ Some w → MovedTo s text w
      go None f e = absurd (none-some w e)
      go (Some p) f e = under p f (ltb (new_count s p) 100000000) refl e

  pub to-moved : MovedTo s text w → shift_peak s text ≡ Some w
  unfolding shift_peak
  to-moved x = rw (x.read, nearest-count x.old s x.nearest (omega (arith, x.fits)), lt-ltb x.new 100000000 x.fits, x.written)

pub peaks : Peaks
peaks = record {
  one = λ p s m n x y. one-nearest p s x y;
  to = moved_to;
  from = to-moved;
  no_steps = λ text p e. to-moved (pos 0) text (format_peak p) (record { old = p; new = p; read = e; nearest = unmoved p; fits = peak-below text p e; written = refl });
  back = peak-back;
}
