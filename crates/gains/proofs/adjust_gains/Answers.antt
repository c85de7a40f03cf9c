use Rattle.frame.specs.Gain.{adjust}
use Rattle.std.proofs.Common.{arith}
use Rattle.std.proofs.lemmas.Grind.{common_steps}
use Rattle.gains.proofs.Mapping.{mapped-more, mapped_at, mapped-all}
use Rattle.gains.proofs.adjust_gains.Goals as goal

pub loop-gain-preserved : goal.loop-gain-preserved
loop-gain-preserved c =
    let a = c.args in
    let i = c.loop-gain.gain-index in
    let f = adjust a.mode a.steps.0 in
    rw (c.adjust_gain_value.ensures, c.loop-gain.invariant, mapped_at f i a.gains.now c.loop-gain-test.true) (mapped-more f i a.gains.now c.loop-gain-test.true)

pub returns : goal.returns
returns c = grind (arith, common_steps, mapped-all)
