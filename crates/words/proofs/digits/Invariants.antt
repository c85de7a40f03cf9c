-- The invariant: the number at the place is, modulo `top * base`, that of the digits left from i behind those that gave n.
use Prim.Native.Nat.{◌*◌, ◌%◌, ◌<◌}
use mathlib.Core.Path.{◌≡◌}
use lib.ListN.{drop}
use Rattle.words.specs.Words.{number}
use Rattle.words.proofs.digits.Given as goal

abbrev pub invariant-loop-i : goal.invariant-loop-i
invariant-loop-i l = (l.n < l.top * l.base) × (number l.base 0 (drop l.at l.text) % (l.top * l.base) ≡ number l.base l.n (drop l.i l.text) % (l.top * l.base))
