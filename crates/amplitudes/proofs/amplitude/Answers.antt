use mathlib.Core.Path.{refl, ◌∙◌}
use borrow.Author.Rules.{rules}
use lib.IntN.{pos, ◌+ℤ◌}
use mir.Syntax.{w32}
use mir.Val.{SFits}
use mir.Facts.{to_z-of_z}
use Rattle.amplitudes.specs.Amplitude.{quarter}
use Rattle.amplitudes.proofs.Products.{made_of, quarter_fits, sum_fits}
use Rattle.amplitudes.proofs.amplitude.Goals as goal

pub returns : goal.returns
returns c =
    let z = c.args.steps.0 in
    let f : SFits w32 z = search rules in
    let g : SFits w32 c.rem_euclid-k.result = search rules in
    let q : SFits w32 (quarter z) = quarter_fits z c.requires in
    let s : SFits w32 (pos 1023 +ℤ quarter z) = sum_fits z c.requires in
    (simp (to_z-of_z f, to_z-of_z g, to_z-of_z q, to_z-of_z s) at c.scaled.ensures)
    ∙ made_of z c.rem_euclid-k.result (pos 1023 +ℤ quarter z) c.requires (rw (to_z-of_z f) at c.rem_euclid-k.ensures.value) refl
