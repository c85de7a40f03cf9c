-- The invariant of either loop: the first such byte from at is the first from where the search has come to.
use Prim.Native.Nat.{◌+◌, ◌-◌}
use lib.ListN.{length}
use Rattle.lists.proofs.Places.{CameTo}
use Rattle.lists.proofs.find_byte.Given as goal

abbrev pub invariant-loop-a : goal.invariant-loop-a
invariant-loop-a l = CameTo l.byte l.s l.at l.a

abbrev pub decreases-loop-a : goal.decreases-loop-a
decreases-loop-a l = length l.s - l.a

abbrev pub invariant-loop-k : goal.invariant-loop-k
invariant-loop-k l = CameTo l.byte l.s l.at (l.a + l.k)
