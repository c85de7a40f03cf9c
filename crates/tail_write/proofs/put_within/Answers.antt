use mathlib.Core.Path.{◌≡◌, refl, sym, ap, ◌∙◌}
use mathlib.Core.List.{List}
use Prim.Native.Nat.{ℕ, ◌-◌}
use native.Mathlib.Omega.{arith}
use lib.ListN.{take}
use lib.Seq.{take_all}
use Rattle.lists.specs.Write.{over}
use Rattle.lists.proofs.Wrote.{at_front}
use Rattle.tail_write.proofs.put_within.Goals as goal

pub returns-then-budget-src : goal.returns-then-budget-src
returns-then-budget-src c =
    let g = c.args in
    let z : g.budget - 0 ≡ g.budget = omega arith in (
      omega (arith, c.if-budget-src.true),
      c.put_rising.ensures.1 ∙ at_front g.out.now (take (g.budget - 0) g.src.now) ∙ ap (λ (n : ℕ). over (take n g.src.now) g.out.now) z,
    )

pub returns : goal.returns
returns c =
    let g = c.args in (
      refl,
      c.put_rising-2.ensures.1 ∙ at_front g.out.now g.src.now
          ∙ ap (λ (w : List ℕ). over w g.out.now) (sym (take_all g.budget g.src.now c.if-budget-src.false)),
    )
