use native.Mathlib.Numerals.{add-one}
use native.Mathlib.Omega.{arith}
use lib.Seq.{paste-suc}
use Rattle.lists.proofs.put_rising.Goals as goal

pub loop-i-preserved : goal.loop-i-preserved
loop-i-preserved c =
    let g = c.args in
    rw (c.loop-i.invariant, add-one) (paste-suc g.out.now g.at g.src.now c.loop-i.i 0 (omega arith) (omega arith))
