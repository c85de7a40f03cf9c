-- Laws of the largest number that passes a test.
use Prim.Native.Nat.{ℕ, zero, suc, ◌+◌, ◌^◌, ◌≤◌, ◌<◌}
use native.Mathlib.Omega.{arith}
use native.Mathlib.Nat.{pow-suc}
use mathlib.Core.Path.{◌≡◌, refl, ap, ◌∙◌}
use mathlib.Core.Logic.{◌⊎◌, inl, inr, ⊎_elim}
use mathlib.Core.Bool.{Bool, true, false}
use lib.Dec.{ltb}
use lib.Pow.{pow_pos}
use borrow.Author.Tests.{ltb-true, ltb-false}
use Rattle.integers.proofs.Sign.{cases}
use Rattle.peaks.specs.Peak.{largest}

reach : (a b : ℕ) → a ≤ b → (b ≡ a) ⊎ (a < b)
reach a b h = cases (ltb a b) (λ t. inr (ltb-true a b t)) (λ t. inl (omega (arith, ltb-false a b t)))

reach' : (a b : ℕ) → a ≤ b → (a ≡ b) ⊎ (a < b)
reach' a b h = cases (ltb a b) (λ t. inr (ltb-true a b t)) (λ t. inl (omega (arith, ltb-false a b t)))

module _ (test : ℕ → Bool) where
  -- what the largest is: it passes, unless it is r itself, and the next one does not, unless there are no more digits
  pub record Top (k r g : ℕ) : Type 0 where
    pub low : r ≤ g
    pub high : g < r + 2 ^ k
    pub passes : r < g → test g ≡ true
    pub next : g + 1 < r + 2 ^ k → test (g + 1) ≡ false

  pub top : (k r : ℕ) → Top k r (largest test k r)
  unfolding largest
  top zero r = record { low = omega arith; high = omega arith; passes = λ h. absurd (omega arith); next = λ h. absurd (omega arith) }
  top (suc k) r = cases (test (r + 2 ^ k)) (λ t. rw t (one t (top k (r + 2 ^ k)))) (λ t. rw t (nil t (top k r)))
    where
      double : 2 ^ suc k ≡ 2 ^ k + 2 ^ k
      double = pow-suc 2 k ∙ omega arith

      one : test (r + 2 ^ k) ≡ true → {g : ℕ} → Top k (r + 2 ^ k) g → Top (suc k) r g
      one t {g} x = record {
        low = omega arith;
        high = omega (arith, double);
        passes = λ h. ⊎_elim (λ e. ap test e ∙ t) (λ l. x.passes l) (reach (r + 2 ^ k) g x.low);
        next = λ h. x.next (omega (arith, double));
      }

      nil : test (r + 2 ^ k) ≡ false → {g : ℕ} → Top k r g → Top (suc k) r g
      nil t {g} x = record {
        low = x.low;
        high = omega (arith, double);
        passes = x.passes;
        next = λ h. ⊎_elim (λ e. ap test e ∙ t) (λ l. x.next l) (reach' (g + 1) (r + 2 ^ k) (omega arith));
      }

-- tests that agree above 0 and below an end have the same largest below it
pub largest-same : (f g : ℕ → Bool) (end : ℕ) → ((n : ℕ) → 0 < n → n < end → f n ≡ g n) → (k r : ℕ) → r + 2 ^ k ≤ end → largest f k r ≡ largest g k r
unfolding largest
largest-same f g end e zero r h = refl
largest-same f g end e (suc k) r h =
    let d : 2 ^ suc k ≡ 2 ^ k + 2 ^ k = pow-suc 2 k ∙ omega arith in
    let p : 1 ≤ 2 ^ k = pow_pos k in
    let t : f (r + 2 ^ k) ≡ g (r + 2 ^ k) = e (r + 2 ^ k) (omega arith) (omega arith) in
    cases (g (r + 2 ^ k)) (λ u. rw (t, u) (largest-same f g end e k (r + 2 ^ k) (omega arith))) (λ u. rw (t, u) (largest-same f g end e k r (omega arith)))

-- a number that passes, of which the next does not, is the largest, where what passes also passes below
pub largest-is : (test : ℕ → Bool) (k g : ℕ) → ((m n : ℕ) → 0 < m → m ≤ n → test n ≡ true → test m ≡ true)
    → g < 2 ^ k → (0 < g → test g ≡ true) → (g + 1 < 2 ^ k → test (g + 1) ≡ false) → g ≡ largest test k 0
largest-is test k g mono small passes next =
    let t = largest test k 0 in
    let x = top test k 0 in
    let p : t < 2 ^ k = omega (arith, x.high) in
    cases (ltb t g)
    (λ u.
    let l : t < g = ltb-true t g u in
    absurd (clash (mono (t + 1) g (omega arith) (omega arith) (passes (omega arith))) (x.next (omega arith))))
    (λ u. cases (ltb g t)
    (λ w.
    let l : g < t = ltb-true g t w in
    absurd (clash (mono (g + 1) t (omega arith) (omega arith) (x.passes (omega arith))) (next (omega arith))))
    (λ w. omega (arith, ltb-false t g u, ltb-false g t w)))
  where
    clash : {b : Bool} → b ≡ true → b ≡ false → ⊥
    clash e f = let z : ◌≡◌ {A = ℕ} 0 1 = cc in omega arith
