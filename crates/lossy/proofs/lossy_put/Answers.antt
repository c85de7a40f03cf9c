use mathlib.Core.Path.{◌∙◌}
use native.Mathlib.Omega.{arith}
use Rattle.utf8.proofs.Stretch.{part-size}
use Rattle.lossy.proofs.Written.{begin, fits-run, fits-mark, replaced, finished}
use Rattle.lossy.proofs.lossy_put.Goals as goal

pub loop-out-init : goal.loop-out-init
loop-out-init c = begin c.args.s.now c.args.out.now c.args.at c.requires.1

pub put_part-requires : goal.put_part-requires
put_part-requires c =
    let x = c.run_from-r.ensures in
    (x.stretch.order, x.stretch.inside, omega (arith, fits-run c.loop-out.invariant x, part-size x.stretch))

pub returns-then-r-eq0 : goal.returns-then-r-eq0
returns-then-r-eq0 c =
    finished c.loop-out.invariant c.run_from-r.ensures (c.put_part.ensures.0, c.put_part.ensures.1) c.if-r-eq0.true

pub put_rising-p-requires : goal.put_rising-p-requires
put_rising-p-requires c = fits-run c.loop-out.invariant c.run_from-r.ensures

pub put_rising-o-requires : goal.put_rising-o-requires
put_rising-o-requires c =
    omega (arith, fits-mark c.loop-out.invariant c.run_from-r.ensures c.if-r-eq0.false, c.put_rising-p.ensures.0, c.put_rising-p.auto.out)

pub loop-out-smaller : goal.loop-out-smaller
loop-out-smaller c =
    omega (arith, c.run_from-r.ensures.inside, c.run_from-r.ensures.stretch.order, c.if-r-eq0.false)

pub loop-out-preserved : goal.loop-out-preserved
loop-out-preserved c =
    replaced c.loop-out.invariant c.run_from-r.ensures c.put_rising-p.ensures c.if-r-eq0.false c.put_rising-o.ensures (c.put_rising-o.auto.out ∙ c.put_rising-p.auto.out)
