-- An ill-formed part is a maximal subpart by the standard (D93b): one byte, or the longest that begins a character.
use Prim.Native.Nat.{ℕ, zero, suc, ◌+◌, ◌-◌, ◌≤◌, ◌<◌}
use native.Mathlib.Omega.{arith}
use mathlib.Core.Path.{◌≡◌, refl, sym, ap, ◌∙◌}
use mathlib.Core.Logic.{◌⊎◌, inl, inr, ⊎_elim}
use mathlib.Core.Bool.{Bool, true, false, cond}
use mathlib.Core.List.{List, [], ◌∷◌, ◌++◌, append_assoc}
use lib.Dec.{eqb}
use lib.ListN.{length, take, drop, replicate, length-append, length-replicate}
use lib.Seq.{length-take-le, take-add}
use borrow.Author.Tests.{eqb-false, eq-eqb}
use Rattle.utf8.specs.declared.Part.TheVariants.{Good, Bad, End}
use Rattle.lists.specs.Bytes.{among}
use Rattle.utf8.specs.Utf8.{number_of, class_at, run, judged, step_of, size, Initial, Maximal}
use Rattle.utf8.proofs.Laws.{counts, goes_on, step-within, step-moves}

-- ---- with the byte behind it, it begins no character

cut : (t : Bool) (m k : ℕ) → cond t (suc m) 0 ≡ 0 → cond t (suc k) 0 ≡ 0
cut true m k e = absurd (omega arith)
cut false m k e = refl

run_ends : (n low high k : ℕ) (s t : List ℕ) → run n low high s ≡ k → k < length s → run n low high (take (suc k) s ++ t) ≡ k
unfolding run
run_ends zero low high k s t e h = e
run_ends (suc n) low high k [] t e h = absurd (omega arith)
run_ends (suc n) low high zero (b ∷ s) t e h = cut (among low high b) _ _ e
run_ends (suc n) low high (suc k) (b ∷ s) t e h = goes_on (among low high b) _ _ k k e (λ f. run_ends n 0x80 0xBF k s t f (omega arith))

-- ---- more than one byte begin a character: 80 as often as bytes are missing completes it

fill : (n : ℕ) → run n 0x80 0xBF (replicate n 0x80) ≡ n
unfolding run
fill zero = refl
fill (suc n) = ap suc (fill n)

run-fills : (n k m : ℕ) (s : List ℕ) → n ≡ k + m → run n 0x80 0xBF s ≡ k → run n 0x80 0xBF (take k s ++ replicate m 0x80) ≡ n
unfolding run
run-fills n zero m s p e = let q : n ≡ m = omega arith in rw (← q) (fill n)
run-fills zero (suc k) m s p e = absurd (omega arith)
run-fills (suc n) (suc k) m [] p e = absurd (omega arith)
run-fills (suc n) (suc k) m (b ∷ s) p e = goes_on (among 0x80 0xBF b) _ _ k n e (λ f. run-fills n k m s (omega arith) f)

run-starts : (n low high k m : ℕ) (s : List ℕ) → n ≡ suc k + m → run n low high s ≡ suc k → run n low high (take (suc k) s ++ replicate m 0x80) ≡ n
unfolding run
run-starts zero low high k m s p e = absurd (omega arith)
run-starts (suc n) low high k m [] p e = absurd (omega arith)
run-starts (suc n) low high k m (b ∷ s) p e = goes_on (among low high b) _ _ k n e (λ f. run-fills n k m s (omega arith) f)

pub run-bound : (n low high : ℕ) (s : List ℕ) → run n low high s ≤ n
unfolding run
run-bound zero low high s = omega arith
run-bound (suc n) low high [] = omega arith
run-bound (suc n) low high (b ∷ s) = counts (among low high b) _ _ (run-bound n 0x80 0xBF s)

-- ---- the law

pub judged-bad : (m n k : ℕ) → judged m n ≡ Bad (suc k) → (n ≡ k) × (eqb n m ≡ false)
judged-bad m n k h = go (eqb n m) refl h
  where
    go : (t : Bool) → eqb n m ≡ t → cond t (Good (suc n)) (Bad (suc n)) ≡ Bad (suc k) → (n ≡ k) × (eqb n m ≡ false)
    go true e h = let z : ◌≡◌ {A = ℕ} 0 1 = cc in absurd (omega arith)
    go false e h = (cc, e)

-- the part is b and the first k of s
module _ (b : ℕ) (s : List ℕ) (k : ℕ) (h : step_of (b ∷ s) ≡ Bad (suc k)) where
  -- it begins a character, or is one byte
  completes : (k ≡ 0) ⊎ ((t : List ℕ) × (step_of (b ∷ (take k s ++ t)) ≡ Good (suc (k + length t))))
  unfolding step_of
  completes =
      let c = class_at (number_of b) in
      let (e, f) = judged-bad c.more (run c.more c.low c.high s) k h in
      let short : run c.more c.low c.high s ≡ c.more → ⊥ = eqb-false (run c.more c.low c.high s) c.more f in
      start c.more c.low c.high k e (omega (arith, run-bound c.more c.low c.high s, short))
    where
      start : (n low high k : ℕ) → run n low high s ≡ k → k < n → (k ≡ 0) ⊎ ((t : List ℕ) × (judged n (run n low high (take k s ++ t)) ≡ Good (suc (k + length t))))
      start n low high zero e h = inl refl
      start n low high (suc k) e h =
          let t : List ℕ = replicate (n - suc k) 0x80 in
          let l : suc k + length t ≡ n = omega (arith, length-replicate {A = ℕ} (n - suc k) 0x80) in
          inr (t, rw (run-starts n low high k (n - suc k) s (omega arith) e, eq-eqb n n refl, l))

  -- with one byte more it begins none
  stays : k < length s → (t : List ℕ) → step_of (b ∷ (take (suc k) s ++ t)) ≡ Bad (suc k)
  unfolding step_of
  stays i t =
      let c = class_at (number_of b) in
      let (e, f) = judged-bad c.more (run c.more c.low c.high s) k h in
      rw (run_ends c.more c.low c.high k s t e i, ← e, f)

  fits : k ≤ length s
  fits = let w : suc k ≤ suc (length s) = rw h at (step-within (b ∷ s)) in omega arith

  begins-one : (suc k ≡ 1) ⊎ Initial (b ∷ take k s)
  begins-one = ⊎_elim (λ z. inl (ap suc z)) (λ w. inr (w.0, w.1 ∙ ap (λ n. Good (suc n)) (sym (length-append (take k s) w.0 ∙ rw (length-take-le k s fits))))) completes

  longest : (m : ℕ) → suc k < m → m ≤ suc (length s) → Initial (take m (b ∷ s)) → ⊥
  longest zero l i w = omega arith
  longest (suc m) l i w =
      let cut : take m s ≡ take (suc k) s ++ take (m - suc k) (drop (suc k) s) = let n : m ≡ suc k + (m - suc k) = omega arith in ap (λ q. take q s) n ∙ take-add (suc k) (m - suc k) s in
      let same : take m s ++ w.0 ≡ take (suc k) s ++ (take (m - suc k) (drop (suc k) s) ++ w.0) = rw cut (append_assoc (take (suc k) s) _ _) in
      let broken : step_of (b ∷ (take m s ++ w.0)) ≡ Bad (suc k) = rw same (stays (omega arith) _) in
      let whole : step_of (b ∷ (take m s ++ w.0)) ≡ Good (suc (length (take m s ++ w.0))) = w.1 in
      let z : ◌≡◌ {A = ℕ} 0 1 = cc in
      omega arith

-- each ill-formed part is a maximal subpart
pub bad-maximal : (s : List ℕ) (n : ℕ) → step_of s ≡ Bad n → Maximal s n
bad-maximal [] n e = let q : step_of [] ≡ End = unfold step_of in refl in let z : ◌≡◌ {A = ℕ} 0 1 = cc in absurd (omega arith)
bad-maximal (b ∷ s) zero e = let h : 0 < size (Bad zero) = rw e at (step-moves b s) in absurd (omega arith)
bad-maximal (b ∷ s) (suc k) e = record { inside = ap-le (fits b s k e); begins-one = begins-one b s k e; longest = longest b s k e }
  where
    ap-le : {m n : ℕ} → m ≤ n → suc m ≤ suc n
    ap-le h = omega arith
