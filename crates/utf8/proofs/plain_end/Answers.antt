use native.Mathlib.Nat.{add-zero}
use native.Mathlib.Omega.{arith}
use mathlib.Core.Path.{◌≡◌}
use Rattle.utf8.proofs.Stretch.{none, plain, join}
use Rattle.utf8.proofs.plain_end.Goals as goal

pub loop-i-init : goal.loop-i-init
loop-i-init c = rw add-zero (none _ _ (omega arith))

pub loop-i-preserved : goal.loop-i-preserved
loop-i-preserved c = plain _ c.loop-i.invariant (omega arith) (omega arith) (omega arith)

pub returns : goal.returns
returns c =
    let whole : c.loop-i.i ≡ 32 = omega arith in
    join (rw whole at c.loop-i.invariant) c.far_end-2.ensures
