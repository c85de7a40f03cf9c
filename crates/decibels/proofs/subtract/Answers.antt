use Prim.Native.Nat.{◌*◌, ◌+◌}
use mathlib.Core.Path.{◌≡◌}
use mathlib.Core.Bool.{not}
use native.Mathlib.Omega.{arith}
use lib.IntN.{◌-ℤ◌}
use Rattle.number.specs.Reading.{with_sign}
use Rattle.decibels.specs.Gain.{units}
use Rattle.decibels.proofs.Amounts.{same-sign, not-same-sign, other_sign, keep-amount}
use Rattle.decibels.proofs.subtract.Goals as goal

pub returns-then-a-b : goal.returns-then-a-b
returns-then-a-b c =
    let e : c.args.a.1 * 1000000000 ≡ units c.args.a = omega (arith, c.requires) in
    rw (same-sign c.args.a.0 c.args.b.0 c.if-a-b.true, ← e) c.apart.ensures

pub returns-else-a-b : goal.returns-else-a-b
returns-else-a-b c =
    let minus = c.args.a.0 in
    let x = units c.args.a in
    let y = units c.args.b in
    rw (not-same-sign minus c.args.b.0 c.if-a-b.false) (
      keep-amount minus (with_sign minus x -ℤ with_sign (not minus) y) (x + y) _ _ (other_sign x y minus) (record { sum = omega (arith, c.requires); small = c.requires.3 }),
      omega (arith, c.requires),
      c.requires.3,
    )
