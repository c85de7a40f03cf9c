-- The test of the header, by the tests of the code.
use Rattle.std.specs.Prelude.{Some}
use Prim.Native.Nat.{ℕ, ◌+◌, ◌/◌, ◌%◌, ◌≤◌, ◌<◌}
use mathlib.Core.Path.{◌≡◌, sym, ◌∙◌}
use mathlib.Core.Bool.{true, false}
use mathlib.Core.List.{List}
use lib.ListN.{drop}
use lib.Dec.{eqb}
use borrow.Author.Tests.{le-leb, lt-leb, eq-eqb, ne_eqb}
use Rattle.lists.specs.Bytes.{starts_with}
use Rattle.lists.specs.Le.{read_u32}
use Rattle.frame.specs.Tail.{preamble, tag_start}
use Rattle.ape.specs.Tag.{version_at, size_at, count_at}
use Rattle.calls.specs.Gate.{header_at, is_headed}

module _ (s : List ℕ) (f h : ℕ) (st : tag_start s f ≡ Some h) where
  pub no-bit : read_u32 s (f + 20) < 0x80000000 → true ≡ is_headed s f
  no-bit l = rw (lt-leb _ _ l)

  module _ (b : 0x80000000 ≤ read_u32 s (f + 20)) where
    headed-is : is_headed s f ≡ header_at s f h
    headed-is = rw (le-leb _ _ b, st)

    pub no-preamble : starts_with preamble (drop h s) ≡ false → false ≡ is_headed s f
    unfolding header_at
    no-preamble p = sym (headed-is ∙ rw p)

    module _ (p : starts_with preamble (drop h s) ≡ true) where
      pub another-version : (version_at s h ≡ 2000 → ⊥) → false ≡ is_headed s f
      unfolding header_at
      another-version n = sym (headed-is ∙ rw (p, ne_eqb _ _ n))

      module _ (v : version_at s h ≡ 2000) where
        pub another-size : (size_at s h ≡ size_at s f → ⊥) → false ≡ is_headed s f
        unfolding header_at
        another-size n = sym (headed-is ∙ rw (p, eq-eqb _ _ v, ne_eqb _ _ n))

        module _ (z : size_at s h ≡ size_at s f) where
          pub another-count : (count_at s h ≡ count_at s f → ⊥) → false ≡ is_headed s f
          unfolding header_at
          another-count n = sym (headed-is ∙ rw (p, eq-eqb _ _ v, eq-eqb _ _ z, ne_eqb _ _ n))

          pub header-bit : count_at s h ≡ count_at s f → eqb (read_u32 s (h + 20) / 0x20000000 % 2) 1 ≡ is_headed s f
          unfolding header_at
          header-bit c = sym (headed-is ∙ rw (p, eq-eqb _ _ v, eq-eqb _ _ z, eq-eqb _ _ c))
