-- Over a frame, or past a byte.
use native.Mathlib.Omega.{arith}
use mathlib.Core.Path.{◌≡◌, refl, sym}
use mathlib.Core.Bool.{◌||◌}
use Rattle.std.proofs.lemmas.Grind.{common_steps}
use Rattle.frame.specs.Gain.{adjust}
use Rattle.layer3.proofs.Walk.{counts, walk-on}
use Rattle.sound_gains.proofs.Ranges.{scan-frame, scan-checksum, scan-least, scan-greatest}
use Rattle.sound_gains.proofs.scan_at.Goals as goal

pub returns-in_default : goal.returns-in_default
returns-in_default c =
    let g = c.args in
    let n = c.next_sync.ensures in
    let e = walk-on g.audio.now g.x.at (sym c.in_default.ensures) _ n.1 in
    rw e (omega (arith, n.0), refl, refl, refl, refl)

pub widen_frame-range-requires : goal.widen_frame-range-requires
widen_frame-range-requires c =
    let g = c.args in
    let h = c.in-Some.h in
    let e = sym c.in-Some.ensures in
    let k = counts g.audio.now g.x.at h e in
    (k.long.least, k.ends, c.requires.2)

pub overflow_add-x-2 : goal.overflow_add-x-2
overflow_add-x-2 c =
    let g = c.args in
    let h = c.in-Some.h in
    let e = sym c.in-Some.ensures in
    let k = counts g.audio.now g.x.at h e in
    omega (arith, k.ends, c.requires.2)

pub pass_frame-requires : goal.pass_frame-requires
pass_frame-requires c =
    let g = c.args in
    let h = c.in-Some.h in
    let e = sym c.in-Some.ensures in
    let k = counts g.audio.now g.x.at h e in
    (omega (arith, k.some), k.ends, c.requires.2)

pub returns : goal.returns
returns c =
    let g = c.args in
    let h = c.in-Some.h in
    let e = sym c.in-Some.ensures in
    let k = counts g.audio.now g.x.at h e in
    let w = c.widen_frame-range.ensures in
    let t : c.if-x.checksum ≡ (g.x.found.checksum || h.checksum) = grind (arith, common_steps) in
    let n = c.pass_frame.ensures in
    rw n.1 (
      omega (arith, k.some, n.0),
      sym (scan-frame g.audio.now g.x.at h e g.x.found.frames),
      rw t (scan-checksum g.audio.now g.x.at h e g.x.found.checksum),
      scan-least g.audio.now g.x.at h e (adjust g.moves.mode g.moves.left.0) (adjust g.moves.mode g.moves.right.0) _ _ w.0,
      scan-greatest g.audio.now g.x.at h e (adjust g.moves.mode g.moves.left.0) (adjust g.moves.mode g.moves.right.0) _ _ w.1,
    )
