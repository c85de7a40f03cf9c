-- Over a frame, or past a byte.
use native.Mathlib.Omega.{arith}
use mathlib.Core.Path.{refl, sym}
use Rattle.layer3.proofs.Walk.{counts, walk-on}
use Rattle.sound_lists.proofs.Gets.{left_over, right-over}
use Rattle.sound_lists.proofs.get_at.Goals as goal

pub returns-in_default : goal.returns-in_default
returns-in_default c =
    let g = c.args in
    let n = c.next_sync.ensures in
    let e = walk-on g.audio.now g.x.at (sym c.in_default.ensures) _ n.1 in
    rw e (omega (arith, n.0), omega (arith, n.0, c.requires.3), omega (arith, n.0, c.requires.4), (refl, refl), (refl, refl))

pub get_frame-y-requires : goal.get_frame-y-requires
get_frame-y-requires c =
    let g = c.args in
    let h = c.in-Some.h in
    let e = sym c.in-Some.ensures in
    let k = counts g.audio.now g.x.at h e in
    (k.long.least, k.ends, c.requires.2, c.requires.3, c.requires.4)

pub pass_frame-requires : goal.pass_frame-requires
pass_frame-requires c =
    let g = c.args in
    let h = c.in-Some.h in
    let e = sym c.in-Some.ensures in
    let k = counts g.audio.now g.x.at h e in
    let w = c.get_frame-y.ensures in
    (omega (arith, w.0), omega (arith, w.0, k.ends), c.requires.2)

pub returns : goal.returns
returns c =
    let g = c.args in
    let h = c.in-Some.h in
    let e = sym c.in-Some.ensures in
    let k = counts g.audio.now g.x.at h e in
    let w = c.get_frame-y.ensures in
    let n = c.pass_frame.ensures in
    rw n.1 (omega (arith, k.some, w.0, n.0), omega (arith, w.1, n.0), omega (arith, w.2, n.0), left_over g.audio.now g.x.at h e _ w.0 g.left.now g.x.left _ _ w.3, right-over g.audio.now g.x.at h e _ w.0 g.right.now g.x.right _ _ w.4)
