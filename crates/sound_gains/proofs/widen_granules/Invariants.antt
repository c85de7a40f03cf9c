-- The invariant: the range with the granules that are left is the range with all of them.
use Rattle.std.proofs.Common.{◌≡◌, ◌≤◌, ◌-◌, min, max, length}
use Rattle.frame.specs.Gain.{adjust}
use Rattle.layer3.specs.Fields.{moved_gains}
use Rattle.layer3.proofs.Places.{granules, Inside}
use Rattle.calls.specs.Calls.{least, greatest}
use Rattle.sound_gains.proofs.widen_granules.Given as goal

abbrev pub invariant-loop : goal.invariant-loop
invariant-loop g l =
    let f = adjust l.moves.mode l.moves.left.0 in
    let h = adjust l.moves.mode l.moves.right.0 in
    let rest = moved_gains f h (granules (l.end - l.counter) l.fn.h.mono l.bit l.p.next) l.audio in
    let whole = moved_gains f h (granules (l.initial.end - l.initial.counter) l.fn.h.mono l.initial.bit l.p.next) l.audio in
    Inside (length l.audio) (l.end - l.counter) l.fn.h.mono l.bit l.p.next
    × (l.wider.least ≤ 255)
    × (min l.wider.least (least rest) ≡ min l.initial.wider.least (least whole))
    × (max l.wider.greatest (greatest rest) ≡ max l.initial.wider.greatest (greatest whole))
