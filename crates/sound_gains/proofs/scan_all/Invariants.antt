-- The invariant: what was found and what is left are what there is.
use Prim.Native.Nat.{◌-◌}
use mathlib.Core.Path.{◌≡◌}
use lib.ListN.{length}
use Rattle.frame.specs.Gain.{adjust}
use Rattle.sound_gains.specs.Scan.{frames_found, checksum_found, least_found, greatest_found}
use Rattle.sound_gains.proofs.scan_all.Given as goal

abbrev pub invariant-loop-x : goal.invariant-loop-x
invariant-loop-x l =
    let f = adjust l.moves.mode l.moves.left.0 in
    let g = adjust l.moves.mode l.moves.right.0 in
    (frames_found l.audio l.x ≡ frames_found l.audio l.initial.x) × (checksum_found l.audio l.x ≡ checksum_found l.audio l.initial.x)
    × (least_found f g l.audio l.x ≡ least_found f g l.audio l.initial.x) × (greatest_found f g l.audio l.x ≡ greatest_found f g l.audio l.initial.x)

abbrev pub decreases-loop-x : goal.decreases-loop-x
decreases-loop-x l = length l.audio - l.x.at
