-- The invariant of both loops: what was counted, and what is left to count.
use Rattle.std.proofs.Common.{◌≡◌, ◌+◌, ◌*◌, drop}
use Rattle.tally.specs.Tally.{count, within}
use Rattle.tally.proofs.count_within.Given as goal

abbrev pub invariant-loop-i : goal.invariant-loop-i
invariant-loop-i l = count (within l.over l.most) l.gains ≡ l.n + count (within l.over l.most) (drop (l.i * 240) l.gains)

abbrev pub invariant-loop-at : goal.invariant-loop-at
invariant-loop-at l = count (within l.over l.most) l.gains ≡ l.n + count (within l.over l.most) (drop l.at l.gains)
