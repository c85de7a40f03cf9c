use mathlib.Core.Path.{◌≡◌, sym, ◌∙◌}
use mathlib.Core.Bool.{◌&&◌}
use Prim.Native.Nat.{◌+◌}
use native.Mathlib.Omega.{arith}
use borrow.Author.Rules.{rules}
use borrow.Author.Tests.{eq-eqb, ne_eqb}
use lib.ListN.{drop}
use lib.Dec.{eqb}
use Rattle.lists.specs.Bytes.{starts_with}
use Rattle.lists.specs.Le.{read_u32}
use Rattle.frame.specs.Tail.{preamble}
use Rattle.ape.proofs.Preamble.{preamble-numbers}
use Rattle.ape.proofs.is_preamble.Goals as goal
use Rattle.ape.proofs.is_preamble.Goals.{After-shared_slice_known-1}

numbers : (c : After-shared_slice_known-1) → let g = c.args in
    starts_with preamble (drop g.at g.file.now) ≡ (eqb (read_u32 g.file.now g.at) (read_u32 preamble 0) && eqb (read_u32 g.file.now (g.at + 4)) (read_u32 preamble 4))
numbers c = preamble-numbers c.args.file.now (λ i. omega (arith, c.shared_slice_known-1.given i)) c.args.at c.requires

pub returns-then-read_u32_le : goal.returns-then-read_u32_le
returns-then-read_u32_le c =
    rw (numbers (goal.at.returns-then-read_u32_le c).After-shared_slice_known-1, ne_eqb _ _ (λ e. c.if-read_u32_le.true (c.read_u32_le.ensures ∙ e ∙ sym c.read_u32_le-2.ensures)))

pub returns : goal.returns
returns c =
    let q : read_u32 preamble 4 ≡ c.read_u32_le-4.result = sym c.read_u32_le-4.ensures in
    rw (numbers (goal.at.returns c).After-shared_slice_known-1, eq-eqb _ _ (sym c.read_u32_le.ensures ∙ c.if-read_u32_le.false ∙ c.read_u32_le-2.ensures), ← c.read_u32_le-3.ensures, q)
