-- Two conversions with the contract of `lossy_into` are the same: the one by blocks and the single-byte one.
use Rattle.std.specs.Prelude.{Option, None, Some}
use Prim.Native.Nat.{ℕ}
use mathlib.Core.Path.{◌≡◌, refl, sym, ap, ◌∙◌}
use mathlib.Core.Bool.{Bool, true, false}
use mathlib.Core.List.{List}
use lib.ListN.{length}
use lib.Dec.{eqb}
use borrow.Author.Tests.{eq-eqb}
use Rattle.std.specs.Prelude.{Option, None, Some, option_map}
use Rattle.std.specs.Option.{option_eq}
use Rattle.lists.specs.Bytes.{same}
use Rattle.lists.proofs.Same.{same_refl, same-unequal}
use Rattle.lossy.specs.Lossy.{lossy}
use Rattle.lossy.specs.Write.{within}
use Rattle.singly.specs.Same.{left}

-- what a conversion of s into out answers and leaves there
pub record Converts (s out : List ℕ) (r : Option ℕ) (after : List ℕ) : Type 0 where
  pub answers : r ≡ option_map length (within (length out) (lossy s))
  pub leaves : after ≡ left s out
  pub long : length after ≡ length out

module _ {s a b : List ℕ} {x y : Option ℕ} {a₁ b₁ : List ℕ} (p : Converts s a x a₁) (q : Converts s b y b₁) where
  -- buffers of one length: equal answers
  pub same-replies : length a ≡ length b → x ≡ y
  same-replies e = p.answers ∙ ap (λ (n : ℕ). option_map length (within n (lossy s))) e ∙ sym q.answers

  -- buffers that start alike end alike
  pub same_bytes : a ≡ b → same a₁ b₁ ≡ true
  same_bytes e =
      let f : a₁ ≡ b₁ = p.leaves ∙ ap (left s) e ∙ sym q.leaves in
      rw f (same_refl b₁)

  -- where the answers differ, the buffers have two lengths
  pub other-bytes : {t : Bool} → t ≡ false → (x ≡ y → t ≡ true) → same a₁ b₁ ≡ false
  other-bytes f h =
      same-unequal a₁ b₁
      (λ e.
      let g = h (same-replies (sym p.long ∙ e ∙ q.long)) in
      cc)

-- equal answers pass the test
pub same-answers : (x y : Option ℕ) → x ≡ y → option_eq eqb x y ≡ true
same-answers None None e = refl
same-answers None (Some n) e = cc
same-answers (Some m) None e = cc
same-answers (Some m) (Some n) e = eq-eqb m n cc
