-- The invariant: what was passed is a run of characters.
use Prim.Native.Nat.{◌*◌}
use Rattle.utf8.specs.Runs.{Stretch}
use Rattle.utf8.proofs.front_by_sixteens.Given as goal

abbrev pub invariant-loop-k : goal.invariant-loop-k
invariant-loop-k l = Stretch l.s 0 (l.k * 16)
