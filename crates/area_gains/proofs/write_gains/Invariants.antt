-- The invariant: what is made so far is written, and what is still to be set.
use Rattle.area_gains.proofs.Rest.{lent}
use Prim.Native.Nat.{◌-◌}
use Rattle.area_gains.proofs.Turns.{Writing}
use Rattle.area_gains.proofs.write_gains.Given as goal

abbrev pub invariant-loop : goal.invariant-loop
invariant-loop l = Writing l.area l.count (lent l.texts) l.initial.out l.out l.at (l.count - l.counter) l.to_write l.o
