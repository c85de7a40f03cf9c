-- Over a frame, or past a byte.
use native.Mathlib.Omega.{arith}
use mathlib.Core.Path.{sym}
use lib.ListN.{drop}
use Rattle.layer3.proofs.Walk.{counts}
use Rattle.sound_lists.proofs.Puts.{put-past, put-over}
use Rattle.sound_lists.proofs.put_at.Goals as goal

pub returns-in_default : goal.returns-in_default
returns-in_default c =
    let g = c.args in
    let n = c.next_sync.ensures in
    (omega (arith, n.0), put-past g.audio.now g.x.at (drop g.x.left g.left.now) (drop g.x.right g.right.now) g.out.now (sym c.in_default.ensures) _ n.1)

pub put_frame-y-requires : goal.put_frame-y-requires
put_frame-y-requires c =
    let g = c.args in
    let h = c.in-Some.h in
    let e = sym c.in-Some.ensures in
    let k = counts g.audio.now g.x.at h e in
    (k.long.least, omega (arith, k.ends, c.requires.2), omega (arith, c.requires.2, c.requires.3))

pub pass_frame-requires : goal.pass_frame-requires
pass_frame-requires c =
    let g = c.args in
    let h = c.in-Some.h in
    let e = sym c.in-Some.ensures in
    let k = counts g.audio.now g.x.at h e in
    let w = c.put_frame-y.ensures in
    (omega (arith, w.0), omega (arith, w.0, k.ends), c.requires.3)

pub returns : goal.returns
returns c =
    let g = c.args in
    let h = c.in-Some.h in
    let e = sym c.in-Some.ensures in
    let k = counts g.audio.now g.x.at h e in
    let w = c.put_frame-y.ensures in
    let n = c.pass_frame.ensures in
    rw n.1 (omega (arith, k.some, w.0, n.0), put-over g.audio.now g.x.at (drop g.x.left g.left.now) (drop g.x.right g.right.now) g.out.now h e _ _ _ _ w.0 w.1)
