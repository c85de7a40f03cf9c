-- The invariant: the text's number is that of the digits left behind those that gave n.
use mathlib.Core.Path.{◌≡◌}
use Prim.Native.Nat.{◌≤◌}
use lib.ListN.{drop}
use Rattle.number.specs.Reading.{natural, digits_from}
use Rattle.number.proofs.parse_natural.Given as goal

abbrev pub invariant-loop-x : goal.invariant-loop-x
invariant-loop-x l = (l.n ≤ l.limit) × (natural l.s ≡ digits_from l.n (drop l.x-index l.s))
