use Rattle.std.proofs.Common.{arith, ◌≡◌, ◌+◌, ◌*◌, drop}
use Rattle.tally.specs.Tally.{count, within}
use Rattle.tally.proofs.Counts.{count-block, count-one, count-end, count_most}
use Rattle.tally.proofs.count_within.Goals as goal
use Rattle.tally.proofs.count_within.Goals.{After-from-n, After-from-n-in-loop-at}

-- with a block
block : (c : After-from-n) → let g = c.args in let p = within g.over g.most in
    count p g.gains.now ≡ c.loop-i.n + c.from-n.result + count p (drop ((c.loop-i.i + 1) * 240) g.gains.now)
block c =
    let g = c.args in
    let e : (c.loop-i.i + 1) * 240 ≡ c.loop-i.i * 240 + 240 = omega arith in
    rw e (omega (arith, c.loop-i.invariant, c.count_block.ensures, c.from-n.ensures, count-block (within g.over g.most) g.gains.now (c.loop-i.i * 240) 240))

-- with one gain
one : (c : After-from-n-in-loop-at) → let g = c.args in let p = within g.over g.most in
    count p g.gains.now ≡ c.loop-at.n + c.from-n-in-loop-at.result + count p (drop (c.loop-at.at + 1) g.gains.now)
one c =
    let g = c.args in
    omega (arith, c.loop-at.invariant, c.one_within.ensures.0, c.from-n-in-loop-at.ensures, count-one (within g.over g.most) g.gains.now c.loop-at.at c.loop-at-test.true)

pub overflow_add-n : goal.overflow_add-n
overflow_add-n c = let g = c.args in omega (arith, block c, count_most (within g.over g.most) g.gains.now)

pub loop-i-preserved : goal.loop-i-preserved
loop-i-preserved c = block (goal.at.loop-i-preserved c).After-from-n

pub overflow_add-n-in-loop-at : goal.overflow_add-n-in-loop-at
overflow_add-n-in-loop-at c = let g = c.args in omega (arith, one c, count_most (within g.over g.most) g.gains.now)

pub loop-at-preserved : goal.loop-at-preserved
loop-at-preserved c = one (goal.at.loop-at-preserved c).After-from-n-in-loop-at

pub returns : goal.returns
returns c = let g = c.args in omega (arith, c.loop-at.invariant, count-end (within g.over g.most) g.gains.now c.loop-at.at c.loop-at-test.false)
