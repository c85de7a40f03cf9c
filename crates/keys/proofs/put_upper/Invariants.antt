-- The invariant: the first i letters of src in upper case are pasted in from at.
use Rattle.std.proofs.Common.{◌≡◌}
use lib.Seq.{paste}
use Rattle.keys.specs.Keys.{upper_all}
use Rattle.keys.proofs.put_upper.Given as goal

abbrev pub invariant-loop-i : goal.invariant-loop-i
invariant-loop-i l = l.out ≡ paste l.initial.out l.at (upper_all l.src) l.i
