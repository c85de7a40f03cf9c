-- Bytes compared as numbers: four at a time, the least first.
use Prim.Native.Nat.{ℕ, suc, ◌+◌, ◌*◌, ◌≤◌, ◌<◌}
use native.Mathlib.Omega.{arith}
use mathlib.Core.Path.{◌≡◌, refl, ap, ◌∙◌}
use mathlib.Core.Bool.{Bool, true, false, ◌&&◌}
use mathlib.Core.List.{List, [], ◌∷◌}
use lib.ListN.{length, drop, get_or}
use lib.Seq.{drop-cons}
use lib.Dec.{eqb}
use borrow.Author.Tests.{eq-eqb, ne_eqb, eqb-true, eqb-false}
use Rattle.lists.specs.Bytes.{starts_with, Small}
use Rattle.lists.specs.Le.{read_u32}
use Rattle.frame.specs.Tail.{preamble}

module _ (s : List ℕ) (small : Small s) where
  next : (x : ℕ) (p : List ℕ) (at : ℕ) → at < length s → starts_with (x ∷ p) (drop at s) ≡ (eqb x (get_or s at 0) && starts_with p (drop (at + 1) s))
  unfolding starts_with
  next x p at h = let e : at + 1 ≡ suc at = omega arith in rw (drop-cons s at 0 h, e)

  module _ (a b c d : ℕ) (p : List ℕ) (at : ℕ) (h : at + 4 ≤ length s) (a8 : a < 256) (b8 : b < 256) (c8 : c < 256) (d8 : d < 256) where
    abbrev number : ℕ
    number = a + b * 256 + c * 65536 + d * 16777216

    starts-four : starts_with (a ∷ b ∷ c ∷ d ∷ p) (drop at s) ≡ (eqb (read_u32 s at) number && starts_with p (drop (at + 4) s))
    starts-four =
        let e2 : at + 1 + 1 ≡ at + 2 = omega arith in
        let e3 : at + 2 + 1 ≡ at + 3 = omega arith in
        let e4 : at + 3 + 1 ≡ at + 4 = omega arith in
        rw (next a (b ∷ c ∷ d ∷ p) at (omega arith), next b (c ∷ d ∷ p) (at + 1) (omega arith), e2, next c (d ∷ p) (at + 2) (omega arith), e3, next d p (at + 3) (omega arith), e4)
        (go (eqb a (get_or s at 0)) (eqb b (get_or s (at + 1) 0)) (eqb c (get_or s (at + 2) 0)) (eqb d (get_or s (at + 3) 0)) refl refl refl refl)
      where
        rest : Bool
        rest = starts_with p (drop (at + 4) s)

        differ : (read_u32 s at ≡ number → ⊥) → false ≡ (eqb (read_u32 s at) number && rest)
        differ n = rw (ne_eqb (read_u32 s at) number n)

        go : (t u v w : Bool) → eqb a (get_or s at 0) ≡ t → eqb b (get_or s (at + 1) 0) ≡ u → eqb c (get_or s (at + 2) 0) ≡ v → eqb d (get_or s (at + 3) 0) ≡ w
            → (t && (u && (v && (w && rest)))) ≡ (eqb (read_u32 s at) number && rest)
        go false u v w t= u= v= w= = differ (λ n. eqb-false a (get_or s at 0) t= (omega (arith, small at, small (at + 1), small (at + 2), small (at + 3))))
        go true false v w t= u= v= w= = differ (λ n. eqb-false b (get_or s (at + 1) 0) u= (omega (arith, small at, small (at + 1), small (at + 2), small (at + 3))))
        go true true false w t= u= v= w= = differ (λ n. eqb-false c (get_or s (at + 2) 0) v= (omega (arith, small at, small (at + 1), small (at + 2), small (at + 3))))
        go true true true false t= u= v= w= = differ (λ n. eqb-false d (get_or s (at + 3) 0) w= (omega (arith, small at, small (at + 1), small (at + 2), small (at + 3))))
        go true true true true t= u= v= w= =
            rw (eq-eqb (read_u32 s at) number (omega (arith, eqb-true a (get_or s at 0) t=, eqb-true b (get_or s (at + 1) 0) u=, eqb-true c (get_or s (at + 2) 0) v=, eqb-true d (get_or s (at + 3) 0) w=)))

  -- the preamble by its two halves
  pub preamble-numbers : (at : ℕ) → at + 8 ≤ length s
      → starts_with preamble (drop at s) ≡ (eqb (read_u32 s at) (read_u32 preamble 0) && eqb (read_u32 s (at + 4)) (read_u32 preamble 4))
  unfolding starts_with
  preamble-numbers at h =
      starts-four 0x41 0x50 0x45 0x54 (0x41 ∷ 0x47 ∷ 0x45 ∷ 0x58 ∷ []) at (omega arith) (omega arith) (omega arith) (omega arith) (omega arith)
      ∙ ap (λ t. eqb (read_u32 s at) (read_u32 preamble 0) && t)
      (starts-four 0x41 0x47 0x45 0x58 [] (at + 4) (omega arith) (omega arith) (omega arith) (omega arith) (omega arith) ∙ and-true (eqb (read_u32 s (at + 4)) (read_u32 preamble 4)))
    where
      and-true : (t : Bool) → (t && true) ≡ t
      and-true true = refl
      and-true false = refl
