-- Over a frame, or past a byte.
use native.Mathlib.Omega.{arith}
use mathlib.Core.Path.{sym, ap, ◌∙◌}
use lib.ListN.{length}
use Rattle.frame.specs.Gain.{adjust}
use Rattle.layer3.proofs.Fields.{length_moved}
use Rattle.layer3.proofs.Walk.{counts}
use Rattle.sound_gains.proofs.Moves.{move-past, move-over}
use Rattle.sound_gains.proofs.move_at.Goals as goal

pub returns-in_default : goal.returns-in_default
returns-in_default c =
    let g = c.args in
    let n = c.next_sync.ensures in
    (omega (arith, n.0), c.requires.2, move-past g.audio.now g.at (adjust g.moves.mode g.moves.left.0) (adjust g.moves.mode g.moves.right.0) g.out.now (sym c.in_default.ensures) _ n.1)

pub move_frame-requires : goal.move_frame-requires
move_frame-requires c =
    let g = c.args in
    let h = c.in-Some.h in
    let e = sym c.in-Some.ensures in
    let k = counts g.audio.now g.at h e in
    (k.long.least, omega (arith, k.ends, c.requires.2), omega (arith, c.requires.2, c.requires.3))

pub overflow_add-at-2 : goal.overflow_add-at-2
overflow_add-at-2 c =
    let g = c.args in
    let h = c.in-Some.h in
    let e = sym c.in-Some.ensures in
    let k = counts g.audio.now g.at h e in
    omega (arith, k.ends, c.requires.3)

pub pass_frame-requires : goal.pass_frame-requires
pass_frame-requires c =
    let g = c.args in
    let h = c.in-Some.h in
    let e = sym c.in-Some.ensures in
    let k = counts g.audio.now g.at h e in
    (omega (arith, k.some), k.ends, c.requires.3)

pub returns : goal.returns
returns c =
    let g = c.args in
    let h = c.in-Some.h in
    let e = sym c.in-Some.ensures in
    let k = counts g.audio.now g.at h e in
    let w = c.move_frame.ensures in
    let n = c.pass_frame.ensures in
    rw n.1 (omega (arith, k.some, n.0), ap length w ∙ length_moved (adjust g.moves.mode g.moves.left.0) (adjust g.moves.mode g.moves.right.0) _ g.out.now ∙ c.requires.2, move-over g.audio.now g.at (adjust g.moves.mode g.moves.left.0) (adjust g.moves.mode g.moves.right.0) g.out.now h e _ w)
