use native.Mathlib.Omega.{arith}
use mathlib.Core.Path.{◌≡◌, refl, sym, ap, ◌∙◌}
use lib.ListN.{length}
use Rattle.frame.specs.Gain.{adjust}
use Rattle.layer3.specs.Fields.{moved_by}
use Rattle.layer3.specs.Walk.{walk, frames_in, fields_of}
use Rattle.layer3.proofs.Walk.{walk_end}
use Rattle.layer3.proofs.Audio.{audio-moved}
use Rattle.sound_gains.proofs.move_all.Goals as goal

pub move_at-at-requires : goal.move_at-at-requires
move_at-at-requires c = let p = c.requires in (p.0, c.loop-at-test.true, c.loop-at.invariant.0, p.2)

pub loop-at-preserved : goal.loop-at-preserved
loop-at-preserved c = (c.move_at-at.ensures.1, c.move_at-at.ensures.2 ∙ c.loop-at.invariant.1)

pub returns : goal.returns
unfolding fields_of frames_in moved_by
returns c =
    let g = c.args in
    let f = adjust g.moves.mode g.moves.left.0 in
    let h = adjust g.moves.mode g.moves.right.0 in
    let e : moved_by f h (fields_of (walk (length g.audio.now) g.audio.now c.loop-at.at)) c.loop-at.out ≡ c.loop-at.out = rw (walk_end g.audio.now c.loop-at.at (omega arith)) in
    sym e ∙ c.loop-at.invariant.1 ∙ rw (c.walk_start-at.ensures, c.requires.1) (audio-moved f h g.audio.now)

pub loop-at-init : goal.loop-at-init
loop-at-init c = (ap length c.requires.1, refl)

pub loop-at-smaller : goal.loop-at-smaller
loop-at-smaller c = omega (arith, c.move_at-at.ensures.0)
