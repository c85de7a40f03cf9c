-- The invariant: k times 512 bytes of each half are written.
use mathlib.Core.Path.{◌≡◌}
use Prim.Native.Nat.{◌*◌}
use Rattle.lists.proofs.Halves.{halves}
use Rattle.lists.proofs.put_halves.Given as goal

abbrev pub invariant-loop-k : goal.invariant-loop-k
invariant-loop-k l = l.out ≡ halves l.initial.out l.at l.src l.half (l.k * 512)
