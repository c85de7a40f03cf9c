-- The invariant: p is 10 to the power of k, and n is written with k digits at the least.
use mathlib.Core.Path.{◌≡◌}
use Prim.Native.Nat.{◌-◌, ◌^◌}
use Rattle.decimal.specs.Writing.{decimal}
use Rattle.decimal.proofs.width.Given as goal

abbrev pub invariant-loop-k : goal.invariant-loop-k
invariant-loop-k l = (l.p ≡ 10 ^ l.k) × (decimal l.least (l.most - l.least) l.n ≡ decimal l.k (l.most - l.k) l.n)
