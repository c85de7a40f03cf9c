use native.Mathlib.Omega.{arith}
use Rattle.lists.proofs.Places.{place_here, place-next, place_end}
use Rattle.lists.proofs.find_each.Goals as goal

pub returns-then-s-i : goal.returns-then-s-i
returns-then-s-i c =
    let g = c.args in
    place_here g.byte g.s.now g.at c.loop-i.i c.loop-i.invariant (omega arith) c.if-s-i.true

pub loop-i-preserved : goal.loop-i-preserved
loop-i-preserved c =
    let g = c.args in
    place-next g.byte g.s.now g.at c.loop-i.i c.loop-i.invariant (omega arith) c.if-s-i.false

pub returns : goal.returns
returns c =
    let g = c.args in
    grind (arith, c.loop-i.invariant, place_end g.byte g.s.now c.loop-i.i (omega arith), place_end g.byte g.s.now g.at)
