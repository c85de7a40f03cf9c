use Rattle.std.proofs.Common.{arith, sym, ◌∙◌}
use Rattle.layer3.proofs.Walk.{walk-past}
use Rattle.layer3.proofs.next_sync.Goals as goal

pub loop-i-preserved : goal.loop-i-preserved
loop-i-preserved c =
    let s = c.args.s.now in
    let n = c.next_255-i-in-loop-i.ensures in
    (omega (arith, n.0, c.loop-i.invariant.0), n.1 ∙ sym (walk-past s c.loop-i.i (sym (c.may_begin.ensures c.if-not-may_begin.true))) ∙ c.loop-i.invariant.1)
