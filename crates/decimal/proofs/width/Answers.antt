use mathlib.Core.Path.{◌≡◌, ◌∙◌}
use Prim.Native.Nat.{◌+◌, ◌-◌}
use native.Mathlib.Omega.{arith}
use native.Mathlib.Numerals.{add-one}
use native.Mathlib.Nat.{pow-suc}
use Rattle.decimal.specs.Writing.{decimal}
use Rattle.decimal.proofs.Places.{decimal-stop, decimal-next, decimal-end}
use Rattle.decimal.proofs.width.Goals as goal

pub returns-then-from-p : goal.returns-then-from-p
returns-then-from-p c =
    let g = c.args in
    (omega arith, c.loop-k.invariant.1 ∙ decimal-stop c.loop-k.k (g.most - c.loop-k.k) g.n (omega arith))

pub loop-k-preserved : goal.loop-k-preserved
loop-k-preserved c =
    let g = c.args in
    let e : g.most - c.loop-k.k - 1 ≡ g.most - (c.loop-k.k + 1) = omega arith in
    let t : decimal c.loop-k.k (g.most - c.loop-k.k) g.n ≡ decimal (c.loop-k.k + 1) (g.most - c.loop-k.k - 1) g.n =
    decimal-next c.loop-k.k (g.most - c.loop-k.k) g.n (omega arith) (omega arith) in
    (rw (add-one, pow-suc) (omega arith), c.loop-k.invariant.1 ∙ rw e at t)

pub returns : goal.returns
returns c =
    let g = c.args in
    let e : c.loop-k.k ≡ g.most = omega (arith, c.requires) in
    (omega arith, rw e at (c.loop-k.invariant.1 ∙ decimal-end c.loop-k.k (g.most - c.loop-k.k) g.n (omega arith)))
