-- The invariant: another byte was met exactly if one of the first n does not pass.
use Prim.Native.Nat.{ℕ}
use mathlib.Core.Path.{◌≡◌}
use mathlib.Core.Bool.{Bool, not}
use lib.ListN.{take, drop}
use Rattle.lists.specs.Bytes.{all, Computes}
use Rattle.lists.proofs.all_of.Given as goal

abbrev pub invariant-loop-n : goal.invariant-loop-n
invariant-loop-n g l = (p : ℕ → Bool) → Computes (goal.F-post g l.test) p → not l.other ≡ all p (take l.n (drop l.at l.s))
