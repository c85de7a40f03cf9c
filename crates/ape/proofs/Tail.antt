-- Reading looks at the end of a file only: bytes put in front of a long enough end change nothing.
use Prim.Native.Nat.{ℕ, ◌+◌, ◌-◌, ◌≤◌}
use native.Mathlib.Omega.{arith}
use mathlib.Core.Path.{◌≡◌, refl, sym, ap, ◌∙◌}
use mathlib.Core.Bool.{Bool, true, false, ◌&&◌, cond}
use Rattle.std.specs.Prelude.{Option, None, Some}
use mathlib.Core.List.{List, ◌++◌}
use lib.ListN.{length, length-append}
use lib.Seq.{drop-append-add, drop-append_seam}
use lib.Dec.{leb, eqb}
use borrow.Author.Tests.{le-leb}
use Rattle.lists.specs.Le.{read_u32}
use Rattle.lists.proofs.Numbers.{read-drop}
use Rattle.frame.specs.Tail.{preamble, id3v1_mark, stands_at, ends_with_id3v1}
use Rattle.frame.proofs.Tails.{stands-in}
use Rattle.items.specs.Items.{Item}
use Rattle.ape.specs.Tag.{find_footer, footed, version_at, size_at, count_at, area_at, read_items, read_tag}

-- a number behind a
pub at-seam : (a b : List ℕ) (i : ℕ) → read_u32 (a ++ b) (length a + i) ≡ read_u32 b i
at-seam a b i = sym (read-drop (a ++ b) (length a) i) ∙ ap (λ (l : List ℕ). read_u32 l i) (drop-append_seam a b)

-- a footer so many bytes further on
abbrev pub further : ℕ → Option ℕ → Option ℕ
further n None = None
further n (Some f) = Some (n + f)

-- where a footer stands in n bytes, by the two tests
abbrev footer_by : Bool → Bool → ℕ → Option ℕ
footer_by x y n = cond x (Some (n - 32)) (cond y (Some (n - 160)) None)

module _ (a b : List ℕ) (long : 160 ≤ length b) where
  by-further : (x y : Bool) → footer_by x y (length a + length b) ≡ further (length a) (footer_by x y (length b))
  by-further true y = ap Some (omega arith)
  by-further false true = ap Some (omega arith)
  by-further false false = refl

  pub footer-in-tail : find_footer (a ++ b) ≡ further (length a) (find_footer b)
  unfolding find_footer
  footer-in-tail =
      rw (stands-in 32 preamble a b (omega arith), stands-in 160 preamble a b long, stands-in 128 id3v1_mark a b (omega arith), length-append)
      (by-further (stands_at 32 preamble b) (stands_at 160 preamble b && ends_with_id3v1 b))

  number-in-tail : (f k : ℕ) → read_u32 (a ++ b) (length a + f + k) ≡ read_u32 b (f + k)
  number-in-tail f k =
      let e : length a + f + k ≡ length a + (f + k) = omega arith in
      ap (read_u32 (a ++ b)) e ∙ at-seam a b (f + k)

  -- a tag that begins in b
  area-in-tail : (f : ℕ) → size_at b f ≤ f + 32 → area_at (a ++ b) (length a + f) ≡ area_at b f
  unfolding area_at
  area-in-tail f h =
      let e : length a + f + 32 - size_at b f ≡ length a + (f + 32 - size_at b f) = omega arith in
      rw (number-in-tail f 12, e, drop-append-add)

  pub read-in-tail : ((f : ℕ) → find_footer b ≡ Some f → size_at b f ≤ f + 32) → read_tag (a ++ b) ≡ read_tag b
  unfolding read_tag
  read-in-tail fits = rw footer-in-tail (go (find_footer b) refl)
    where
      read : Option ℕ → List ℕ → Option (List Item)
      read x s = footed x None (λ f. cond (eqb (version_at s f) 2000 && leb (size_at s f) (f + 32)) (Some (read_items (count_at s f) (area_at s f))) None)

      go : (x : Option ℕ) → find_footer b ≡ x → read (further (length a) x) (a ++ b) ≡ read x b
      go None q = refl
      go (Some f) q =
          let h : size_at b f ≤ f + 32 = fits f q in
          rw (number-in-tail f 8, number-in-tail f 12, number-in-tail f 16, area-in-tail f h, le-leb (size_at b f) (length a + f + 32) (omega arith), le-leb (size_at b f) (f + 32) h)
