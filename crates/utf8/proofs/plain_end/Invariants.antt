-- The invariant: what was passed is a run of characters.
use Prim.Native.Nat.{◌+◌}
use Rattle.utf8.specs.Runs.{Stretch}
use Rattle.utf8.proofs.plain_end.Given as goal

abbrev pub invariant-loop-i : goal.invariant-loop-i
invariant-loop-i l = Stretch l.s l.from (l.from + l.i)
