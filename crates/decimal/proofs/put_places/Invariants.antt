-- The invariant: the digits behind the first i are written.
use mathlib.Core.Path.{◌≡◌}
use lib.ListN.{length}
use Rattle.decimal.proofs.Places.{Digits}
use Rattle.decimal.proofs.put_places.Given as goal

abbrev pub invariant-loop-i : goal.invariant-loop-i
invariant-loop-i l = (length l.out ≡ length l.initial.out) × Digits l.initial.out l.at l.k l.n l.i l.rest l.out
