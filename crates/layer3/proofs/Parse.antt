-- Laws of headers and frames by the tests of the code.
use Prim.Native.Nat.{ℕ, zero, suc, ◌+◌, ◌/◌, ◌%◌, ◌≤◌, ◌<◌}
use native.Mathlib.Nat.{add-zero}
use native.Mathlib.Omega.{arith}
use mathlib.Core.Path.{◌≡◌, refl, sym, ap, ◌∙◌}
use mathlib.Core.Bool.{Bool, true, false, ◌&&◌, cond}
use mathlib.Core.List.{List, ◌∷◌}
use lib.ListN.{length, get_or, drop, drop_of_length-le}
use lib.Seq.{drop-cons}
use lib.Dec.{leb, eqb}
use borrow.Author.Tests.{eqb-false, leb-true, leb-false}
use Rattle.std.specs.Prelude.{Option, None, Some}
use Rattle.std.proofs.lemmas.Grind.{common_steps}
use Rattle.lists.specs.Bytes.{place_of}
use Rattle.layer3.specs.declared.Frame.{Frame}
use Rattle.layer3.specs.Header.{is_mpeg1, has_checksum, has_rate, has_sampling, is_mono, unpadded_size, is_valid, header_of}
use Rattle.layer3.specs.Walk.{header_at, frame_at}
use Rattle.layer3.proofs.Lengths.{plain-rates}
use Rattle.layer3.proofs.Walk.{counts, walk_from, walk-past}

module _ (a b c d : ℕ) where
  -- a test that fails
  pub no-sync : (a ≡ 255 → ⊥) → None ≡ header_of a b c d
  unfolding header_of is_valid
  no-sync h = grind (arith, common_steps)

  -- what is left: the rates
  module _ (sync : a ≡ 255) (sync-2 : b / 16 ≡ 15) (layer : b / 2 % 4 ≡ 1) (emphasis : d % 4 ≡ 2 → ⊥) (n : ℕ) (size : n ≡ cond (has_rate c && has_sampling c) (unpadded_size (is_mpeg1 b) (c / 16) (c / 4 % 4)) 0) where
    pub no-rates : n ≡ 0 → None ≡ header_of a b c d
    unfolding header_of is_valid
    no-rates z = grind (arith, common_steps, plain-rates (is_mpeg1 b) c)

    pub a-header : (n ≡ 0 → ⊥) → Some (record { size = n + c / 2 % 2; mpeg1 = is_mpeg1 b; mono = is_mono d; checksum = has_checksum b }) ≡ header_of a b c d
    unfolding header_of is_valid
    a-header z = grind (arith, common_steps)

-- ---- frames

module _ (s : List ℕ) (at : ℕ) where
  pub no_header : None ≡ header_at s at → None ≡ frame_at s at
  unfolding frame_at
  no_header e = rw (← e)

  -- no frame is shorter than 24 bytes
  pub no_room : length s < at + 24 → None ≡ frame_at s at
  no_room l = go (frame_at s at) refl
    where
      go : (y : Option Frame) → frame_at s at ≡ y → None ≡ frame_at s at
      go None q = sym q
      go (Some h) q = let c = counts s at h q in absurd (omega arith)

-- ---- the walk over bytes that begin no frame

module _ (s : List ℕ) where
  -- a byte that is not 255
  skip_one : (at n : ℕ) → walk_from s (at + 1 + n) ≡ walk_from s (at + 1) → walk_from s (at + cond (eqb (get_or s at 0) 255) 0 (suc n)) ≡ walk_from s at
  skip_one at n ih = go (eqb (get_or s at 0) 255) refl
    where
      go : (t : Bool) → eqb (get_or s at 0) 255 ≡ t → walk_from s (at + cond t 0 (suc n)) ≡ walk_from s at
      go true e = rw add-zero
      go false e =
          let p : at + suc n ≡ at + 1 + n = omega arith in
          rw p (ih ∙ sym (walk-past s at (sym (no_header s at (no-sync _ _ _ _ (eqb-false _ _ e))))))

  -- up to the next 255
  pub walk-skip : (n at : ℕ) → length s ≤ n + at → walk_from s (at + place_of 255 (drop at s)) ≡ walk_from s at
  unfolding place_of
  walk-skip zero at h = rw (drop_of_length-le s {i = at} (omega arith), add-zero)
  walk-skip (suc n) at h = go (leb (length s) at) refl (walk-skip n (at + 1) (omega arith))
    where
      go : (t : Bool) → leb (length s) at ≡ t → walk_from s (at + 1 + place_of 255 (drop (at + 1) s)) ≡ walk_from s (at + 1)
          → walk_from s (at + place_of 255 (drop at s)) ≡ walk_from s at
      go true e ih = rw (drop_of_length-le s {i = at} (leb-true _ _ e), add-zero)
      go false e ih =
          let p : suc at ≡ at + 1 = omega arith in
          let q : drop at s ≡ get_or s at 0 ∷ drop (at + 1) s = drop-cons s at 0 (leb-false _ _ e) ∙ ap (λ (n : ℕ). get_or s at 0 ∷ drop n s) p in
          rw q (skip_one at _ ih)
