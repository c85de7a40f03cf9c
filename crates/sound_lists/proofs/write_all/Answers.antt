use native.Mathlib.Omega.{arith}
use mathlib.Core.Path.{◌≡◌, refl, sym, ap, ◌∙◌}
use lib.ListN.{length, drop}
use Rattle.layer3.specs.Fields.{write_fields}
use Rattle.layer3.specs.Walk.{walk, frames_in, fields_of}
use Rattle.layer3.proofs.Walk.{walk_end}
use Rattle.sound_lists.proofs.write_all.Goals as goal

pub put_at-x-requires : goal.put_at-x-requires
put_at-x-requires c = let p = c.requires in (p.0, c.loop-x-test.true, c.loop-x.invariant.0, p.2)

pub loop-x-preserved : goal.loop-x-preserved
loop-x-preserved c =
    let i = c.loop-x.invariant in
    (c.put_at-x.auto.out ∙ i.0, c.put_at-x.ensures.1 ∙ i.1)

pub returns : goal.returns
unfolding fields_of frames_in write_fields
returns c =
    let g = c.args in
    let x = c.loop-x.x in
    let e : write_fields (fields_of (walk (length g.audio.now) g.audio.now x.at)) (drop x.left g.left.now) (drop x.right g.right.now) c.loop-x.out ≡ c.loop-x.out = rw (walk_end g.audio.now x.at c.loop-x-test.false) in
    sym e ∙ c.loop-x.invariant.1 ∙ rw (c.walk_start.ensures, c.requires.1)

pub loop-x-init : goal.loop-x-init
loop-x-init c = (ap length c.requires.1, refl)

pub loop-x-smaller : goal.loop-x-smaller
loop-x-smaller c = omega (arith, c.put_at-x.ensures.0)
