-- The invariant: the first such byte from at is the first from i.
use Rattle.lists.proofs.Places.{CameTo}
use Rattle.lists.proofs.find_each.Given as goal

abbrev pub invariant-loop-i : goal.invariant-loop-i
invariant-loop-i l = CameTo l.byte l.s l.at l.i
