-- The invariant: what is stored and what is left to store are all gains.
use Prim.Native.Nat.{◌+◌, ◌-◌, ◌≤◌}
use mathlib.Core.Path.{◌≡◌}
use lib.ListN.{length}
use Rattle.sound_lists.specs.Lists.{filled, lefts_from, rights_from}
use Rattle.sound_lists.proofs.read_all.Given as goal

abbrev pub invariant-loop-x : goal.invariant-loop-x
invariant-loop-x l =
    (l.x.left ≤ l.x.at) × (l.x.right ≤ l.x.at)
    × ((l.x.left + length (lefts_from l.audio l.x.at) ≡ l.initial.x.left + length (lefts_from l.audio l.initial.x.at))
    × (filled l.left l.x.left (lefts_from l.audio l.x.at) ≡ filled l.initial.left l.initial.x.left (lefts_from l.audio l.initial.x.at)))
    × ((l.x.right + length (rights_from l.audio l.x.at) ≡ l.initial.x.right + length (rights_from l.audio l.initial.x.at))
    × (filled l.right l.x.right (rights_from l.audio l.x.at) ≡ filled l.initial.right l.initial.x.right (rights_from l.audio l.initial.x.at)))
    × (length l.left ≡ length l.initial.left) × (length l.right ≡ length l.initial.right)

abbrev pub decreases-loop-x : goal.decreases-loop-x
decreases-loop-x l = length l.audio - l.x.at
