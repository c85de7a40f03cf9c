use mathlib.Core.Path.{◌≡◌}
use Prim.Native.Nat.{suc, ◌-◌}
use native.Mathlib.Omega.{arith}
use lib.ListN.{length-set}
use Rattle.decimal.proofs.Places.{turn, all-written}
use Rattle.decimal.proofs.put_places.Goals as goal

pub loop-i-preserved : goal.loop-i-preserved
loop-i-preserved c =
    let e : c.loop-i.i ≡ suc (c.loop-i.i - 1) = omega arith in
    (simp length-set c.loop-i.invariant.0, turn c.loop-i.i (c.loop-i.i - 1) c.loop-i.invariant.1 e c.requires)

pub returns : goal.returns
returns c =
    let w = all-written c.loop-i.i c.loop-i.invariant.1 (omega arith) in
    (omega (arith, w.0), w.1)
