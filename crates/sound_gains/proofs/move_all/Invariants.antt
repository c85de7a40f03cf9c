-- The invariant: the gains from the place on moved in what is there are all gains moved in what was there.
use Prim.Native.Nat.{◌-◌}
use mathlib.Core.Path.{◌≡◌}
use lib.ListN.{length}
use Rattle.frame.specs.Gain.{adjust}
use Rattle.layer3.specs.Fields.{moved_by}
use Rattle.layer3.specs.Walk.{walk, fields_of}
use Rattle.sound_gains.proofs.move_all.Given as goal

abbrev pub invariant-loop-at : goal.invariant-loop-at
invariant-loop-at l =
    let f = adjust l.moves.mode l.moves.left.0 in
    let g = adjust l.moves.mode l.moves.right.0 in
    (length l.out ≡ length l.audio)
    × (moved_by f g (fields_of (walk (length l.audio) l.audio l.at)) l.out ≡ moved_by f g (fields_of (walk (length l.audio) l.audio l.initial.at)) l.initial.out)

abbrev pub decreases-loop-at : goal.decreases-loop-at
decreases-loop-at l = length l.audio - l.at
