-- The invariant: the place and the number of matches are those of what is left.
use mathlib.Core.Path.{◌≡◌}
use Prim.Native.Nat.{◌-◌, ◌≤◌}
use lib.ListN.{length}
use Rattle.items.specs.Answers.{locate_from}
use Rattle.items.proofs.Located.{count_from}
use Rattle.items.proofs.first_match.Given as goal

abbrev pub invariant-loop-i : goal.invariant-loop-i
invariant-loop-i l =
    (l.start ≤ length l.area) × (locate_from l.area l.key l.at l.count ≡ locate_from l.area l.key l.start (l.count - l.i))
    × (count_from l.area l.key l.at l.count ≡ count_from l.area l.key l.start (l.count - l.i))
