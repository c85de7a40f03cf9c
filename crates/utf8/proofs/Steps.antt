-- What the code finds at a place, by the definitions.
use Prim.Native.Nat.{ℕ, zero, suc, ◌+◌, ◌<◌}
use native.Mathlib.Numerals.{add-one}
use native.Mathlib.Nat.{add_assoc}
use native.Mathlib.Omega.{arith}
use mathlib.Core.Path.{◌≡◌, refl, sym}
use mathlib.Core.Bool.{true, false}
use mathlib.Core.List.{List, [], ◌∷◌}
use lib.Dec.{leb, eqb-zero-suc, eqb-suc-suc}
use borrow.Author.Tests.{lt-leb}
use lib.ListN.{length, get_or, drop}
use lib.Seq.{drop-cons, drop-drop}
use Rattle.lists.specs.Bytes.{among}
use Rattle.lists.proofs.Same.{and-false}
use Rattle.utf8.specs.declared.Part.TheVariants.{Good, Bad}
use Rattle.utf8.specs.Utf8.{class, number_of, class_at, begins, run, follow, step_of}

pub begins-at : (low high : ℕ) (s : List ℕ) (at : ℕ) → at < length s → begins low high (drop at s) ≡ among low high (get_or s at 0)
begins-at low high s at h = rw (drop-cons s at 0)

-- at a first byte of class number k
pub opened : (s : List ℕ) (at k : ℕ) → at < length s → number_of (get_or s at 0) ≡ k → step_of (drop at s) ≡ follow (class_at k) (drop (at + 1) s)
unfolding step_of
opened s at k inside e = rw (drop-cons s at 0, ← e, add-one)

-- no byte lies from 1 to 0
pub none-begins : (s : List ℕ) → begins 1 0 s ≡ false
none-begins [] = refl
none-begins (zero ∷ s) = refl
none-begins (suc b ∷ s) = rw (lt-leb (suc b) 0 (omega arith)) (and-false (leb 1 (suc b)))

-- ---- the bytes behind a first byte, of which suc m are to follow

module _ (m low high : ℕ) (s : List ℕ) (at : ℕ) where
  pub bad-first : begins low high (drop at s) ≡ false → Bad 1 ≡ follow (class (suc m) low high) (drop at s)
  unfolding run
  bad-first e = sym (rw (e, eqb-zero-suc))

  module _ (b₁ : begins low high (drop at s) ≡ true) where
    pub good-first : m ≡ 0 → Good 2 ≡ follow (class (suc m) low high) (drop at s)
    unfolding run
    good-first z = sym (rw (z, b₁))

    pub bad-second : (n : ℕ) → m ≡ suc n → begins 0x80 0xBF (drop (at + 1) s) ≡ false → Bad 2 ≡ follow (class (suc m) low high) (drop at s)
    unfolding run
    bad-second n z e = sym (rw (z, b₁, drop-drop 1 at s, e, eqb-suc-suc, eqb-zero-suc))

    module _ (b₂ : begins 0x80 0xBF (drop (at + 1) s) ≡ true) where
      pub good-second : m ≡ 1 → Good 3 ≡ follow (class (suc m) low high) (drop at s)
      unfolding run
      good-second z = sym (rw (z, b₁, drop-drop, b₂))

      pub bad-third : m ≡ 2 → begins 0x80 0xBF (drop (at + 2) s) ≡ false → Bad 3 ≡ follow (class (suc m) low high) (drop at s)
      unfolding run
      bad-third z e = sym (rw (z, b₁, drop-drop 1 at s, b₂, drop-drop 1 (at + 1) s, add_assoc, e))

      pub good-third : m ≡ 2 → begins 0x80 0xBF (drop (at + 2) s) ≡ true → Good 4 ≡ follow (class (suc m) low high) (drop at s)
      unfolding run
      good-third z e = sym (rw (z, b₁, drop-drop 1 at s, b₂, drop-drop 1 (at + 1) s, add_assoc, e))
