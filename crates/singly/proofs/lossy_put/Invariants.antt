-- The invariant is the `State` of Written.antt.
use Prim.Native.Nat.{◌-◌}
use lib.ListN.{length}
use Rattle.lossy.proofs.Written.{State}
use Rattle.singly.proofs.lossy_put.Given as goal

abbrev pub invariant-loop-n : goal.invariant-loop-n
invariant-loop-n l = State l.s l.initial.out l.at l.out l.from l.o

abbrev pub decreases-loop-n : goal.decreases-loop-n
decreases-loop-n l = length l.s - l.from
