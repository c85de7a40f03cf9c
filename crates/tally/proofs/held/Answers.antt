-- The steps by their sign, and each count by the gains between two numbers.
use mathlib.Core.Path.{refl, sym, ◌∙◌}
use native.Mathlib.Omega.{arith}
use Rattle.lists.specs.Bytes.{Small}
use Rattle.tally.proofs.Tests.{count-low-down, count-lost-down, count-high-down, count-low-up, count-high-up, count-lost-up}
use Rattle.tally.proofs.held.Goals as goal

pub returns-then-steps : goal.returns-then-steps
returns-then-steps c =
    let g = c.args in
    let n = g.steps.by in
    let small : Small g.gains.now = λ i. omega (arith, c.type_inv.gains i) in
    let e = c.within_byte-down.ensures in
    rw c.if-steps.true (
      c.count_within.ensures ∙ count-low-down n g.gains.now small e,
      sym (count-high-down n g.gains.now small),
      c.count_within-then-steps.ensures ∙ count-lost-down n g.gains.now small e,
      refl,
      refl,
    )

pub returns-else-steps : goal.returns-else-steps
returns-else-steps c =
    let g = c.args in
    let n = g.steps.by in
    let small : Small g.gains.now = λ i. omega (arith, c.type_inv.gains i) in
    let e = c.within_byte-up.ensures in
    rw c.if-steps.false (
      sym (count-low-up n g.gains.now small),
      c.count_within-high.ensures ∙ count-high-up n g.gains.now small e,
      c.count_within-high.ensures ∙ count-lost-up n g.gains.now small e,
      refl,
      refl,
    )
