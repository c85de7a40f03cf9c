-- The invariant: what is written so far, and what is left.
use Rattle.area_gains.proofs.Rest.{lent}
use Rattle.area_gains.proofs.Rest.{Putting}
use Rattle.area_gains.proofs.put_rest.Given as goal

abbrev pub invariant-loop-k : goal.invariant-loop-k
invariant-loop-k l = Putting l.todo (lent l.texts) l.initial.size l.initial.out l.out l.k l.size
