use Rattle.std.proofs.Common.{false, arith}
use Rattle.vectors.proofs.Comments.{at-end, within-one, begins, answer}
use Rattle.vectors.proofs.answer_from.Goals.{then-within, else-within+then-text-i-eq35}
use Rattle.vectors.proofs.answer_from.Goals as goal

pub returns-else-text-i-eq35 : goal.returns-else-text-i-eq35
returns-else-text-i-eq35 c =
    let s = c.args.text.now in
    omega (arith, rw c.if-within.false at c.loop-i.invariant, answer s c.loop-i.i (omega arith) c.if-text-i-eq35.false)

pub loop-i-preserved : goal.loop-i-preserved
loop-i-preserved c =
    let s = c.args.text.now in
    elim c.if-within.branch [
      | then-within w ↦ omega (arith, rw w.if-within.true at c.loop-i.invariant, rw (← w.within-is) at (within-one s c.loop-i.i (omega arith)))
      | else-within+then-text-i-eq35 w ↦
          omega (arith, rw w.if-within.false at c.loop-i.invariant, rw (← w.within-is) at (begins s c.loop-i.i (omega arith) w.if-text-i-eq35.true))
    ]

pub returns : goal.returns
returns c =
    let s = c.args.text.now in
    grind (arith, c.loop-i.invariant, at-end s c.loop-i.i c.loop-i.within, at-end s c.args.at false)
