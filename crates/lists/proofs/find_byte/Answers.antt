use Prim.Native.Nat.{◌+◌}
use native.Mathlib.Omega.{arith}
use Rattle.lists.proofs.Places.{place_here, place-next, place_same}
use Rattle.lists.proofs.find_byte.Goals as goal

pub returns-then-s-a : goal.returns-then-s-a
returns-then-s-a c =
    let g = c.args in
    place_here g.byte g.s.now g.at (c.loop-a.a + c.loop-k.k) c.loop-k.invariant (omega arith) c.if-s-a.true

pub loop-k-preserved : goal.loop-k-preserved
loop-k-preserved c =
    let g = c.args in
    place_same g.byte g.s.now g.at (omega arith) (place-next g.byte g.s.now g.at (c.loop-a.a + c.loop-k.k) c.loop-k.invariant (omega arith) c.if-s-a.false)
