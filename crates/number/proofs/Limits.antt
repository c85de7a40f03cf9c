-- Laws of numbers kept only up to a limit.
use Prim.Native.Nat.{ℕ, suc, zero, ◌≤◌, ◌<◌}
use native.Mathlib.Omega.{arith}
use mathlib.Core.Path.{◌≡◌, refl, ap}
use mathlib.Core.Bool.{Bool, true, false, cond}
use Rattle.std.specs.Prelude.{Option, None, Some, option_map, Result, Ok, Err, OkIff}
use Rattle.std.specs.Result.{result_ok}
use mathlib.Core.List.{List}
use lib.Dec.{leb}
use lib.IntN.{ℤ}
use lib.Signed.{mag}
use mir.Syntax.{w32}
use mir.Val.{SFits}
use borrow.Author.Tests.{ltb-true, leb-true, leb-false, le-ltb, lt-ltb}
use Rattle.lists.specs.Choice.{provided}
use Rattle.number.specs.Reading.{is_i32, with_sign, natural, is_minus, unsigned, whole, u8}
use Rattle.number.specs.Trim.{trim}

pub provided-holds : {A : Type 0} (p : A → Bool) (o : Option A) (a : A) → provided p o ≡ Some a → p a ≡ true
provided-holds p None a e = cc
provided-holds p (Some b) a e = go (p b) refl e
  where
    go : (t : Bool) → p b ≡ t → cond t (Some b) None ≡ Some a → p a ≡ true
    go true u e = let h : b ≡ a = cc in rw (← h) u
    go false u e = cc

pub provided-some : {A : Type 0} (p : A → Bool) (o : Option A) (a : A) → provided p o ≡ Some a → o ≡ Some a
provided-some p None a e = cc
provided-some p (Some b) a e = go (p b) e
  where
    go : (t : Bool) → cond t (Some b) None ≡ Some a → Some b ≡ Some a
    go true e = e
    go false e = cc

-- a number read up to a limit is within it
pub within : (limit n : ℕ) (t : List ℕ) → provided (λ k. leb k limit) (natural t) ≡ Some n → n ≤ limit
within limit n t e = leb-true n limit (provided-holds (λ k. leb k limit) (natural t) n e)

-- ---- a number of 32 bits: its size is read up to 2^31, and then it is tested with its sign

pub i32-value : (s : List ℕ) (n : ℕ) → provided (λ k. leb k 2147483648) (natural (unsigned s)) ≡ Some n
    → provided is_i32 (whole s) ≡ provided is_i32 (Some (with_sign (is_minus s) n))
unfolding whole
i32-value s n e = rw (provided-some (λ k. leb k 2147483648) (natural (unsigned s)) n e)

too-large : (minus : Bool) (n : ℕ) → 2147483648 < n → is_i32 (with_sign minus n) ≡ false
too-large true zero h = absurd (omega arith)
too-large true (suc n) h = le-ltb n 2147483648 (omega arith)
too-large false n h = le-ltb n 2147483648 (omega arith)

past : (minus : Bool) (n : ℕ) (t : Bool) → leb n 2147483648 ≡ t → cond t (Some n) None ≡ None → provided is_i32 (Some (with_sign minus n)) ≡ None
past minus n true u e = absurd (let z : ◌≡◌ {A = ℕ} 0 1 = cc in omega arith)
past minus n false u e = rw (too-large minus n (leb-false n 2147483648 u))

nothing : (minus : Bool) (o : Option ℕ) → provided (λ k. leb k 2147483648) o ≡ None → provided is_i32 (option_map (with_sign minus) o) ≡ None
nothing minus None e = refl
nothing minus (Some n) e = past minus n (leb n 2147483648) refl e

pub i32-none : (s : List ℕ) → provided (λ k. leb k 2147483648) (natural (unsigned s)) ≡ None → provided is_i32 (whole s) ≡ None
unfolding whole
i32-none s e = nothing (is_minus s) (natural (unsigned s)) e

pub i32-fits : {E : Type 0} (r : Result ℤ E) (z : ℤ) → OkIff r (SFits w32 z) z → result_ok r ≡ provided is_i32 (Some z)
i32-fits (Ok x) z (f, e) = rw (lt-ltb (mag z) 2147483648 f.sfits) (ap Some e)
i32-fits (Err x) z n = go (is_i32 z) refl
  where
    go : (t : Bool) → is_i32 z ≡ t → None ≡ cond t (Some z) None
    go true e = absurd (n (record { sfits = ltb-true (mag z) 2147483648 e }))
    go false e = refl

-- ---- bytes

pub u8-plain : (s : List ℕ) → is_minus (trim s) ≡ false → u8 s ≡ provided (λ k. leb k 255) (natural (unsigned (trim s)))
unfolding u8
u8-plain s m = rw m

pub u8-minus : (s : List ℕ) → is_minus (trim s) ≡ true → u8 s ≡ None
unfolding u8
u8-minus s m = rw m
