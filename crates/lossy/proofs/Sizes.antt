-- Sizes: the converted text is at least as long as the text, and at most three times as long.
use Prim.Native.Nat.{ℕ, zero, suc, ◌+◌, ◌-◌, ◌*◌, ◌≤◌, ◌<◌}
use native.Mathlib.Omega.{arith}
use mathlib.Core.Path.{◌≡◌, refl}
use mathlib.Core.List.{List, [], ◌∷◌}
use lib.ListN.{length, length-append, length-take}
use borrow.Author.Tests.{eqb-false}
use Rattle.utf8.specs.declared.Part.{Part}
use Rattle.utf8.specs.declared.Part.TheVariants.{Good, Bad, End}
use Rattle.utf8.specs.Utf8.{number_of, class_at, run, step_of, size, after}
use Rattle.lossy.specs.Lossy.{text_of, lossy_from, lossy}
use Rattle.utf8.proofs.Rule.{few-follow}
use Rattle.utf8.proofs.Laws.{step-moves}
use Rattle.utf8.proofs.Maximal.{run-bound, judged-bad}

-- an ill-formed part has at most three bytes
pub bad-short : (b : ℕ) (s : List ℕ) (n : ℕ) → step_of (b ∷ s) ≡ Bad n → n ≤ 3
unfolding step_of
bad-short b s zero e = omega arith
bad-short b s (suc k) e =
    let c = class_at (number_of b) in
    let (p, q) = judged-bad c.more (run c.more c.low c.high s) k e in
    let short : run c.more c.low c.high s ≡ c.more → ⊥ = eqb-false (run c.more c.low c.high s) c.more q in
    omega (arith, run-bound c.more c.low c.high s, few-follow (number_of b), short)

module _ (s : List ℕ) (b : ℕ) where
  text-length : (x : Part) → length (text_of x (b ∷ s)) + 3 * (length s - after (size x)) ≤ 3 * suc (length s)
  text-length (Good zero) = omega arith
  text-length (Good (suc n)) = omega (arith, length-take n s)
  text-length (Bad n) = omega arith
  text-length End = omega arith

  text-least : (x : Part) → step_of (b ∷ s) ≡ x → suc (length s) ≤ length (text_of x (b ∷ s)) + (length s - after (size x))
  text-least (Good zero) e = let h : 0 < size (Good zero) = rw e at (step-moves b s) in absurd (omega arith)
  text-least (Good (suc n)) e = omega (arith, length-take n s)
  text-least (Bad n) e = go n (bad-short b s n e)
    where
      go : (n : ℕ) → n ≤ 3 → suc (length s) ≤ 3 + (length s - after n)
      go zero h = omega arith
      go (suc n) h = omega arith
  text-least End e = let h : 0 < size End = rw e at (step-moves b s) in absurd (omega arith)

length-lossy_from : (s : List ℕ) (k : ℕ) → length (lossy_from k s) ≤ 3 * (length s - k)
unfolding lossy_from
length-lossy_from [] k = omega arith
length-lossy_from (b ∷ s) (suc k) = omega (arith, length-lossy_from s k)
length-lossy_from (b ∷ s) zero =
    let x = step_of (b ∷ s) in
    simp length-append (omega (arith, text-length s b x, length-lossy_from s (after (size x))))

-- at most three times as long
pub length-lossy : (s : List ℕ) → length (lossy s) ≤ 3 * length s
unfolding lossy
length-lossy s = omega (arith, length-lossy_from s 0)

least-lossy_from : (s : List ℕ) (k : ℕ) → length s - k ≤ length (lossy_from k s)
unfolding lossy_from
least-lossy_from [] k = omega arith
least-lossy_from (b ∷ s) (suc k) = omega (arith, least-lossy_from s k)
least-lossy_from (b ∷ s) zero =
    let x = step_of (b ∷ s) in
    simp length-append (omega (arith, text-least s b x refl, least-lossy_from s (after (size x))))

-- at least as long
pub least-lossy : (s : List ℕ) → length s ≤ length (lossy s)
unfolding lossy
least-lossy s = omega (arith, least-lossy_from s 0)
