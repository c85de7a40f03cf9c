-- The invariant: the two are the same where what is before i is.
use Rattle.std.proofs.Common.{◌≡◌, take}
use Rattle.keys.specs.Keys.{same_key}
use Rattle.keys.proofs.same_key.Given as goal

abbrev pub invariant-loop-i : goal.invariant-loop-i
invariant-loop-i l = same_key l.a l.b ≡ same_key (take l.i l.a) (take l.i l.b)
