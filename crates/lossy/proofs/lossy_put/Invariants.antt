-- `utf8::lossy_put` meets its contract. The invariant is the `State` of Written.antt.
use Prim.Native.Nat.{◌-◌}
use lib.ListN.{length}
use Rattle.lossy.proofs.Written.{State}
use Rattle.lossy.proofs.lossy_put.Given as goal

abbrev pub invariant-loop-out : goal.invariant-loop-out
invariant-loop-out l = State l.s l.initial.out l.at l.out l.from l.o

abbrev pub decreases-loop-out : goal.decreases-loop-out
decreases-loop-out l = length l.s - l.from
