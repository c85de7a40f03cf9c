-- The invariant: the first answer from the place is the first from i, which may lie within a comment.
use Prim.Native.Nat.{◌+◌}
use mathlib.Core.Path.{◌≡◌}
use mathlib.Core.Bool.{false}
use lib.ListN.{drop}
use Rattle.vectors.specs.Lines.{comments}
use Rattle.vectors.proofs.answer_from.Given as goal

abbrev pub invariant-loop-i : goal.invariant-loop-i
invariant-loop-i l = l.at + comments false (drop l.at l.text) ≡ l.i + comments l.within (drop l.i l.text)
