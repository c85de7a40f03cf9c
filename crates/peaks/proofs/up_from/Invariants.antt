-- The invariant: n is reached.
use mathlib.Core.Path.{◌≡◌}
use mathlib.Core.Bool.{true}
use Prim.Native.Nat.{◌<◌}
use Rattle.peaks.specs.Halves.{within}
use Rattle.peaks.proofs.up_from.Given as goal

abbrev pub invariant-loop-n : goal.invariant-loop-n
invariant-loop-n l = 0 < l.n → within l.q l.w l.n ≡ true
