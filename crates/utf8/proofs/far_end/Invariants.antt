-- The invariant: what was passed is a run of characters.
use Rattle.utf8.specs.Runs.{Stretch}
use Rattle.utf8.proofs.far_end.Given as goal

abbrev pub invariant-loop-at : goal.invariant-loop-at
invariant-loop-at l = Stretch l.s l.from l.at
