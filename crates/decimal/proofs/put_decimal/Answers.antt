use mathlib.Core.Path.{◌≡◌}
use Prim.Native.Nat.{◌-◌}
use native.Mathlib.Omega.{arith}
use Rattle.decimal.specs.Writing.{decimal, places}
use Rattle.decimal.proofs.Places.{length-places}
use Rattle.decimal.proofs.put_decimal.Goals as goal

pub returns : goal.returns
returns c =
    let g = c.args in
    let digits : decimal g.least (g.most - g.least) g.n ≡ places c.width.result g.n = c.width.ensures.1 in
    rw digits (c.put_places.ensures.0, c.put_places.ensures.1, omega (arith, c.width.ensures.0, c.put_places.ensures.0, length-places c.width.result g.n))
