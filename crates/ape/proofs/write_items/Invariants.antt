-- The invariant: the items read so far are written.
use mathlib.Core.Path.{◌≡◌}
use Prim.Native.Nat.{◌-◌, ◌≤◌}
use lib.ListN.{length}
use Rattle.ape.proofs.Copying.{Progress}
use Rattle.ape.proofs.write_items.Given as goal

abbrev pub invariant-loop-read : goal.invariant-loop-read
invariant-loop-read l = (length l.out ≡ length l.initial.out) × (l.length ≤ length l.initial.out) × Progress l.items l.count l.initial.out l.at (l.count - l.read) l.read l.length l.out
