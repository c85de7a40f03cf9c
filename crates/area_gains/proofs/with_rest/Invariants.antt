-- The invariant: the size and what is left make the whole.
use Rattle.area_gains.proofs.Rest.{lent, Resting}
use Rattle.area_gains.proofs.with_rest.Given as goal

abbrev pub invariant-loop-i : goal.invariant-loop-i
invariant-loop-i l = Resting l.todo (lent l.texts) l.initial.size l.i l.size
