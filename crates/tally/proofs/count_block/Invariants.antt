-- The invariant: the gains of the block before k are counted.
use Rattle.std.proofs.Common.{◌≡◌, ◌≤◌, take, drop}
use Rattle.tally.specs.Tally.{count, within}
use Rattle.tally.proofs.count_block.Given as goal

abbrev pub invariant-loop-k : goal.invariant-loop-k
invariant-loop-k l = (l.n ≤ l.k) × (l.n ≡ count (within l.over l.most) (take l.k (drop l.at l.gains)))
