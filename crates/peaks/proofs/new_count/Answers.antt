-- The quarters of the steps, and what is left of them, by their sign.
use Prim.Native.Nat.{◌*◌, ◌<◌}
use mathlib.Core.Path.{◌≡◌, sym, ◌∙◌}
use native.Mathlib.Omega.{arith}
use borrow.Author.Rules.{rules}
use lib.IntN.{pos}
use lib.Signed.{shr_z}
use mir.Syntax.{w32}
use mir.Val.{SFits}
use mir.Facts.{to_z-of_z}
use Rattle.std.specs.Int.{int_rem_euclid}
use Rattle.peaks.proofs.Moves.{count-below, count-above, quarter_fits}
use Rattle.peaks.proofs.new_count.Goals as goal

pub returns-then-q-lt0 : goal.returns-then-q-lt0
returns-then-q-lt0 c =
    let z = c.args.steps.0 in
    let h : 2 * c.args.p < 268435456 = omega (arith, c.requires) in
    let f : SFits w32 z = search rules in
    let g : SFits w32 c.rem_euclid-k.result = search rules in
    let q : SFits w32 (shr_z z 4) = quarter_fits z f in
    let k : c.rem_euclid-k.result ≡ int_rem_euclid z (pos 4) = rw (to_z-of_z f) at c.rem_euclid-k.ensures.value in
    let e = simp k at (simp (to_z-of_z f, to_z-of_z g, to_z-of_z q, c.from-v.ensures, c.unsigned_abs.ensures.value) at c.rounded.ensures.0) in
    (e ∙ sym (count-below c.args.p z h (simp (to_z-of_z f, to_z-of_z q) at c.if-q-lt0.true)), c.rounded.ensures.1)

pub returns-else-q-lt0 : goal.returns-else-q-lt0
returns-else-q-lt0 c =
    let z = c.args.steps.0 in
    let h : 2 * c.args.p < 268435456 = omega (arith, c.requires) in
    let f : SFits w32 z = search rules in
    let g : SFits w32 c.rem_euclid-k.result = search rules in
    let q : SFits w32 (shr_z z 4) = quarter_fits z f in
    let k : c.rem_euclid-k.result ≡ int_rem_euclid z (pos 4) = rw (to_z-of_z f) at c.rem_euclid-k.ensures.value in
    let e = simp k at (simp (to_z-of_z f, to_z-of_z g, to_z-of_z q, c.capped.ensures.0, c.from-v.ensures) at c.rounded-else-q-lt0.ensures.0) in
    (e ∙ sym (count-above c.args.p z h (simp (to_z-of_z f, to_z-of_z q) at c.if-q-lt0.false)), c.rounded-else-q-lt0.ensures.1)
