-- The invariant: what is made so far is measured, and what is still to be set.
use Rattle.area_gains.proofs.Rest.{lent}
use Prim.Native.Nat.{◌-◌}
use Rattle.area_gains.proofs.Turns.{Measuring}
use Rattle.area_gains.proofs.measure_gains.Given as goal

abbrev pub invariant-loop : goal.invariant-loop
invariant-loop l = Measuring l.area l.count (lent l.texts) l.at (l.count - l.counter) l.todo l.size
