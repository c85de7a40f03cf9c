-- The invariant: the gains that are left put into the granules that are left are all gains put into the frame.
use Rattle.std.proofs.Common.{◌≡◌, ◌-◌, List, ◌++◌, length, drop}
use Rattle.layer3.specs.Fields.{Field, write_fields}
use Rattle.layer3.proofs.Places.{granules, Inside}
use Rattle.sound_lists.proofs.put_granules.Given as goal

abbrev pub invariant-loop : goal.invariant-loop
invariant-loop g l =
    Inside (length l.initial.out) (l.end - l.counter) l.h.mono l.bit l.p.next
    × ((fs : List Field) → write_fields (granules (l.end - l.counter) l.h.mono l.bit l.p.next ++ fs) (drop l.left_at l.left) (drop l.right_at l.right) l.out
    ≡ write_fields (granules (l.initial.end - l.initial.counter) l.h.mono l.initial.bit l.p.next ++ fs) (drop l.initial.left_at l.left) (drop l.initial.right_at l.right) l.initial.out)
