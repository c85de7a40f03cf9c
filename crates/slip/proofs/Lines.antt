-- Laws of a slip's lines.
use Prim.Native.Nat.{ℕ, zero, suc, ◌-◌, ◌≤◌, ◌<◌}
use native.Mathlib.Omega.{arith}
use mathlib.Core.Path.{◌≡◌, refl, sym, ap, ◌∙◌}
use mathlib.Core.Bool.{Bool, true, false}
use Rattle.std.specs.Prelude.{Option, None, Some, option_map}
use mathlib.Core.List.{List}
use lib.ListN.{length, take, drop, length-drop}
use lib.Dec.{ltb}
use borrow.Author.Tests.{lt-ltb, ltb-true, ltb-false}
use Rattle.lists.specs.Bytes.{starts_with}
use Rattle.lists.specs.Choice.{provided}
use Rattle.lists.proofs.Same.{starts-long}
use Rattle.lists.proofs.Wrote.{rest}
use Rattle.number.specs.Reading.{natural, is_minus, unsigned, with_sign, whole, is_i32}
use Rattle.number.proofs.Digits.{natural-below}

-- a name that stands there fits
pub starts-fits : (p s : List ℕ) → starts_with p s ≡ true → length p ≤ length s
starts-fits p s e = go (ltb (length s) (length p)) refl
  where
    go : (t : Bool) → ltb (length s) (length p) ≡ t → length p ≤ length s
    go true u = absurd (let z : true ≡ false = sym e ∙ starts-long p s (ltb-true (length s) (length p) u) in let y : ◌≡◌ {A = ℕ} 0 1 = cc in omega arith)
    go false u = ltb-false (length s) (length p) u

-- ---- five digits fit 32 bits

small-sign : (minus : Bool) (n : ℕ) → n < 100000 → is_i32 (with_sign minus n) ≡ true
small-sign true zero h = refl
small-sign true (suc n) h = lt-ltb n 2147483648 (omega arith)
small-sign false n h = lt-ltb n 2147483648 (omega arith)

-- so the code's limit of 32 bits takes nothing away
pub five-fit : (s : List ℕ) → length (unsigned s) ≤ 5 → provided is_i32 (whole s) ≡ whole s
unfolding whole
five-fit s h = go (natural (unsigned s)) refl
  where
    go : (o : Option ℕ) → natural (unsigned s) ≡ o → provided is_i32 (option_map (with_sign (is_minus s)) o) ≡ option_map (with_sign (is_minus s)) o
    go None e = refl
    go (Some n) e = rw (small-sign (is_minus s) n (natural-below (unsigned s) n 5 h e))

-- how many bytes are left behind a name of k bytes and a sign
pub digits-left : (line : List ℕ) (k sign : ℕ) → drop sign (take (length line - k) (drop k line)) ≡ unsigned (take (length line - k) (drop k line))
    → length (unsigned (drop k line)) ≡ length line - k - sign
digits-left line k sign e =
    let f : drop sign (drop k line) ≡ unsigned (drop k line) = rw (rest line k) at e in
    ap length (sym f) ∙ simp length-drop
