-- A text is cut in two where the second part does not begin with a byte from 80 to BF, which only continues a character: no part spans the cut.
use Prim.Native.Nat.{ℕ, zero, suc, ◌≤◌}
use native.Mathlib.Omega.{arith}
use mathlib.Core.Path.{◌≡◌, refl, sym, ap}
use mathlib.Core.Bool.{Bool, true, false, ◌&&◌, cond, and-eq-true_iff, and_assoc}
use mathlib.Core.List.{List, [], ◌∷◌, ◌++◌}
use lib.Dec.{leb}
use lib.ListN.{length, get_or}
use borrow.Author.Tests.{leb-true, le-leb}
use Rattle.lists.specs.Bytes.{among}
use Rattle.utf8.specs.Utf8.{Row, rows, no_row, number_of, class_at, begins, run, judged, step_of, size, after, whole, valid_from, valid}
use Rattle.utf8.proofs.Laws.{step-within}

-- ---- the next byte of any class lies from 80 to BF

-- a byte from low to high lies there
abbrev Continues : ℕ → ℕ → Type 0
Continues low high = (b : ℕ) → among low high b ≡ true → among 0x80 0xBF b ≡ true

abbrev inner : List Row → Bool
inner [] = true
inner (r ∷ rs) = (leb 0x80 r.says.low && leb r.says.high 0xBF) && inner rs

continues-in : (rs : List Row) (k : ℕ) → inner rs ≡ true → Continues (get_or rs k no_row).says.low (get_or rs k no_row).says.high
continues-in [] k e b h =
    let (p, q) = (and-eq-true_iff (leb 1 b) (leb b 0)).0 h in
    absurd (omega (arith, leb-true 1 b p, leb-true b 0 q))
continues-in (r ∷ rs) zero e b h =
    let (i, j) = (and-eq-true_iff (leb 0x80 r.says.low) (leb r.says.high 0xBF)).0 ((and-eq-true_iff _ (inner rs)).0 e).0 in
    let (p, q) = (and-eq-true_iff (leb r.says.low b) (leb b r.says.high)).0 h in
    rw (le-leb 0x80 b (omega (arith, leb-true 0x80 r.says.low i, leb-true r.says.low b p)), le-leb b 0xBF (omega (arith, leb-true b r.says.high q, leb-true r.says.high 0xBF j)))
continues-in (r ∷ rs) (suc k) e b h = continues-in rs k ((and-eq-true_iff (leb 0x80 r.says.low && leb r.says.high 0xBF) (inner rs)).0 e).1 b h

continues : (k : ℕ) → Continues (class_at k).low (class_at k).high
unfolding class_at
continues k = continues-in rows k refl

-- ---- a step does not pass the cut

module _ (t : List ℕ) (h : begins 0x80 0xBF t ≡ false) where
  none : (low high : ℕ) → Continues low high → begins low high t ≡ false
  none low high c = go t h
    where
      go : (t : List ℕ) → begins 0x80 0xBF t ≡ false → begins low high t ≡ false
      go [] e = refl
      go (b ∷ t) e = test (among low high b) refl
        where
          test : (x : Bool) → among low high b ≡ x → among low high b ≡ false
          test false f = f
          test true f = let g : among 0x80 0xBF b ≡ true = c b f in let z : ◌≡◌ {A = ℕ} 0 1 = cc in absurd (omega arith)

  run-stops : (n low high : ℕ) (s : List ℕ) → Continues low high → run n low high (s ++ t) ≡ run n low high s
  unfolding run
  run-stops zero low high s c = refl
  run-stops (suc n) low high [] c = rw (none low high c)
  run-stops (suc n) low high (b ∷ s) c = ap (λ m. cond (among low high b) (suc m) 0) (run-stops n 0x80 0xBF s (λ b e. e))

  pub step-stops : (b : ℕ) (s : List ℕ) → step_of (b ∷ (s ++ t)) ≡ step_of (b ∷ s)
  unfolding step_of
  step-stops b s =
      let c = class_at (number_of b) in
      ap (judged c.more) (run-stops c.more c.low c.high s (continues (number_of b)))

  pub inside : (n : ℕ) (s : List ℕ) → n ≤ suc (length s) → after n ≤ length s
  inside zero s f = omega arith
  inside (suc n) s f = omega arith

  valid-cut : (s : List ℕ) (k : ℕ) → k ≤ length s → valid_from k (s ++ t) ≡ (valid_from k s && valid_from 0 t)
  unfolding valid_from
  valid-cut [] zero f = refl
  valid-cut [] (suc k) f = absurd (omega arith)
  valid-cut (b ∷ s) (suc k) f = valid-cut s k (omega arith)
  valid-cut (b ∷ s) zero f =
      let x = step_of (b ∷ s) in
      rw (step-stops b s, valid-cut s (after (size x)) (inside (size x) s (step-within (b ∷ s)))) (sym (and_assoc (whole x) _ _))

-- ---- the law

pub valid-boundary : (s t : List ℕ) → begins 0x80 0xBF t ≡ false → valid (s ++ t) ≡ (valid s && valid t)
unfolding valid
valid-boundary s t h = valid-cut t h s 0 (omega arith)
