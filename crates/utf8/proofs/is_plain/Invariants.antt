-- The invariant: every byte is ASCII where every byte behind k blocks is. Where the loop ends, those lie in the last sixteen.
use Prim.Native.Nat.{◌*◌}
use mathlib.Core.Path.{◌≡◌}
use lib.ListN.{drop}
use Rattle.utf8.specs.Utf8.{plain}
use Rattle.utf8.proofs.is_plain.Given as goal

abbrev pub invariant-loop-k : goal.invariant-loop-k
invariant-loop-k l = plain l.s ≡ plain (drop (l.k * 16) l.s)
