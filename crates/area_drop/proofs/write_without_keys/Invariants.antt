-- The invariant: what stays so far is written, and the rest of it is to come.
use Prim.Native.Nat.{◌-◌}
use Rattle.items.proofs.Loops.{Left}
use Rattle.area_drop.proofs.Dropping.{Keeping}
use Rattle.area_drop.proofs.write_without_keys.Given as goal

abbrev pub invariant-loop : goal.invariant-loop
invariant-loop g l =
    Left l.area l.at (l.count - l.counter)
    × Keeping (g.T.KeyTest.test l.goes) l.area l.count l.initial.out l.out l.at (l.count - l.counter) l.o
