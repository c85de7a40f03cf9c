-- The invariant: those before i are marked.
use mathlib.Core.Path.{◌≡◌}
use mathlib.Core.Bool.{false}
use mathlib.Core.List.{[]}
use Prim.Native.Nat.{ℕ, ◌<◌}
use lib.ListN.{length, get_or}
use lib.Dec.{ltb}
use Rattle.area_gains.proofs.Rest.{lent}
use Rattle.area_gains.proofs.to_set.Given as goal

abbrev pub invariant-loop-i : goal.invariant-loop-i
invariant-loop-i l = (length l.marks ≡ 5) × ((k : ℕ) → k < l.i → get_or l.marks k false ≡ ltb 0 (length (get_or (lent l.texts) k [])))
