-- Laws of `signed_of`: by the byte in front.
use Prim.Native.Nat.{ℕ, zero, suc, ◌+◌, ◌-◌, ◌%◌, ◌≤◌, ◌<◌}
use native.Mathlib.Numerals.{add-one}
use native.Mathlib.Omega.{arith}
use mathlib.Core.Path.{◌≡◌, refl}
use mathlib.Core.List.{List}
use lib.ListN.{length, drop, get_or, drop_of_length-le}
use lib.Seq.{drop-cons}
use lib.IntN.{pos, negsuc}
use borrow.Author.Tests.{eq-eqb, ne_eqb}
use Rattle.words.specs.Words.{unsigned_of, below, signed_of}

module _ (s : List ℕ) (at : ℕ) where
  pub past : length s ≤ at → signed_of (drop at s) ≡ pos 0
  unfolding signed_of
  past h = rw (drop_of_length-le s {i = at} h)

  pub minus : at < length s → get_or s at 0 ≡ 45 → signed_of (drop at s) ≡ below (unsigned_of (drop (at + 1) s))
  unfolding signed_of
  minus h e = rw (drop-cons s at 0 h, eq-eqb (get_or s at 0) 45 e, add-one)

  pub plain : at < length s → (get_or s at 0 ≡ 45 → ⊥) → signed_of (drop at s) ≡ pos (unsigned_of (drop at s) % 2147483648)
  unfolding signed_of
  plain h e = rw (drop-cons s at 0 h, ne_eqb (get_or s at 0) 45 e)

pub below-some : (n : ℕ) → (n ≡ 0 → ⊥) → below n ≡ negsuc ((n - 1) % 2147483648)
below-some zero h = absurd (h refl)
below-some (suc n) h = let e : suc n - 1 ≡ n = omega arith in rw e
