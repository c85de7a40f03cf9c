-- The invariant: what is stored and what is left to store are the gains of the frame.
use Rattle.std.proofs.Common.{◌≡◌, ◌≤◌, ◌+◌, ◌-◌, length}
use Rattle.layer3.specs.Fields.{read_left, read_right}
use Rattle.layer3.proofs.Places.{granules, Inside}
use Rattle.sound_lists.specs.Lists.{filled}
use Rattle.sound_lists.proofs.get_granules.Given as goal

abbrev pub invariant-loop : goal.invariant-loop
invariant-loop g l =
    let rest = granules (l.end - l.counter) l.h.mono l.bit l.p.next in
    let whole = granules (l.initial.end - l.initial.counter) l.h.mono l.initial.bit l.p.next in
    Inside (length l.audio) (l.end - l.counter) l.h.mono l.bit l.p.next
    × (l.left_at ≤ l.initial.left_at + l.counter) × (l.right_at ≤ l.initial.right_at + l.counter)
    × ((l.left_at + length (read_left rest l.audio) ≡ l.initial.left_at + length (read_left whole l.audio))
    × (filled l.left l.left_at (read_left rest l.audio) ≡ filled l.initial.left l.initial.left_at (read_left whole l.audio)))
    × ((l.right_at + length (read_right rest l.audio) ≡ l.initial.right_at + length (read_right whole l.audio))
    × (filled l.right l.right_at (read_right rest l.audio) ≡ filled l.initial.right l.initial.right_at (read_right whole l.audio)))
