-- The invariant: the gains that are left put into what is there are all gains put into what was there.
use Prim.Native.Nat.{◌-◌}
use mathlib.Core.Path.{◌≡◌}
use lib.ListN.{length, drop}
use Rattle.layer3.specs.Fields.{write_fields}
use Rattle.layer3.specs.Walk.{walk, fields_of}
use Rattle.sound_lists.proofs.write_all.Given as goal

abbrev pub invariant-loop-x : goal.invariant-loop-x
invariant-loop-x l =
    (length l.out ≡ length l.audio)
    × (write_fields (fields_of (walk (length l.audio) l.audio l.x.at)) (drop l.x.left l.left) (drop l.x.right l.right) l.out
    ≡ write_fields (fields_of (walk (length l.audio) l.audio l.initial.x.at)) (drop l.initial.x.left l.left) (drop l.initial.x.right l.right) l.initial.out)

abbrev pub decreases-loop-x : goal.decreases-loop-x
decreases-loop-x l = length l.audio - l.x.at
