-- The invariant: every byte is printable where every byte from `at` on is. Where the loop ends, those lie in the last N.
use Rattle.std.proofs.Common.{◌≡◌, drop}
use Rattle.lists.specs.Bytes.{all}
use Rattle.keys.specs.Keys.{printable}
use Rattle.keys.proofs.printable_by.Given as goal

abbrev pub invariant-loop-at : goal.invariant-loop-at
invariant-loop-at g l = all printable l.s ≡ all printable (drop l.at l.s)
