-- The invariant: the granules that are left moved in what is there are all granules moved in what was there.
use Rattle.std.proofs.Common.{◌≡◌, ◌-◌, length}
use Rattle.frame.specs.Gain.{adjust}
use Rattle.layer3.specs.Fields.{moved_by}
use Rattle.layer3.proofs.Places.{granules, Inside}
use Rattle.sound_gains.proofs.move_granules.Given as goal

abbrev pub invariant-loop : goal.invariant-loop
invariant-loop g l =
    let f = adjust l.moves.mode l.moves.left.0 in
    let h = adjust l.moves.mode l.moves.right.0 in
    Inside (length l.initial.out) (l.end - l.counter) l.fn.h.mono l.bit l.p.next
    × (moved_by f h (granules (l.end - l.counter) l.fn.h.mono l.bit l.p.next) l.out
    ≡ moved_by f h (granules (l.initial.end - l.initial.counter) l.fn.h.mono l.initial.bit l.p.next) l.initial.out)
