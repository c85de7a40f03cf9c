-- The invariant: all are valid exactly if those that are left are.
use mathlib.Core.Path.{◌≡◌}
use Rattle.area_gains.proofs.Rest.{lent}
use lib.ListN.{drop}
use Rattle.area_gains.specs.Gains.{all_valid}
use Rattle.area_gains.proofs.are_utf8.Given as goal

abbrev pub invariant-loop-i : goal.invariant-loop-i
invariant-loop-i l = all_valid (lent l.texts) ≡ all_valid (drop l.i (lent l.texts))
