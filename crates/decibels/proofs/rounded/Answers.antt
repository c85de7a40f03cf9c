use Prim.Native.Nat.{◌+◌, ◌/◌}
use mathlib.Core.Path.{◌≡◌}
use native.Mathlib.Omega.{arith}
use Rattle.decibels.specs.Gain.{units, nearest}
use Rattle.decibels.proofs.rounded.Goals as goal

pub returns-then-a-lt500000000 : goal.returns-then-a-lt500000000
unfolding nearest
returns-then-a-lt500000000 c =
    let a = c.args.a in
    let e : (units a + 500000000) / 1000000000 ≡ a.1 = omega (arith, c.requires) in
    (rw e, omega (arith, c.requires))

pub returns-else-a-lt500000000 : goal.returns-else-a-lt500000000
unfolding nearest
returns-else-a-lt500000000 c =
    let a = c.args.a in
    let e : (units a + 500000000) / 1000000000 ≡ a.1 + 1 = omega (arith, c.requires) in
    (rw e, omega (arith, c.requires))
