use mathlib.Core.Path.{◌≡◌, sym, ◌∙◌}
use native.Mathlib.Omega.{arith}
use Rattle.peaks.specs.Halves.{within}
use Rattle.peaks.proofs.Counts.{largest-is}
use Rattle.peaks.proofs.Wides.{within-below}
use Rattle.peaks.proofs.up_from.Goals as goal

pub returns-then-not-reaches : goal.returns-then-not-reaches
returns-then-not-reaches c =
    let g = c.args in (
      largest-is (within g.q g.w) 27 c.loop-n.n (within-below g.q g.w) (omega arith) c.loop-n.invariant (λ h. sym c.reaches.ensures ∙ c.if-not-reaches.true),
      omega arith,
    )

pub returns : goal.returns
returns c =
    let g = c.args in
    let e : c.loop-n.n ≡ 134217727 = omega (arith, c.requires) in
    (largest-is (within g.q g.w) 27 134217727 (within-below g.q g.w) (omega arith) (rw e at c.loop-n.invariant) (λ h. absurd (omega arith)), omega arith)
