use mathlib.Core.Path.{◌≡◌, sym, ap, ◌∙◌}
use mathlib.Core.Bool.{true}
use native.Mathlib.Omega.{arith}
use mir.Syntax.{w32}
use mir.Val.{SFits}
use mir.Facts.{to_z-of_z}
use borrow.Author.Rules.{rules}
use borrow.Author.Tests.{not-true, not-false}
use Rattle.lists.specs.Choice.{is_some}
use Rattle.slip.specs.Slip.{is_step}
use Rattle.items.specs.Items.{parse}
use Rattle.area_edit.proofs.Plans.{refused, finished}
use Rattle.area_shift.proofs.Shifting.{fits-no, room_for, fits_all, shift-12, shift-2, shift-5, shift-yes}
use Rattle.area_shift.proofs.shift_stored_gain.Goals as goal
use Rattle.area_shift.proofs.shift_stored_gain.Goals.{After-is_step, Else-not-is_step, Else-not-well_formed}

pub returns-then-not-well_formed : goal.returns-then-not-well_formed
returns-then-not-well_formed c =
    let g = c.args in
    refused g.out.now (shift-12 g.mode g.steps.0 g.count g.area.now _ (sym c.well_formed-2.ensures ∙ c.if-not-well_formed.true))

-- the area is well formed
good : (c : Else-not-well_formed) → let g = c.args in is_some (parse g.count g.area.now) ≡ true
good c = sym c.well_formed-2.ensures ∙ c.if-not-well_formed.false

-- whether the step is in range
step : (c : After-is_step) → c.is_step.result ≡ is_step c.args.steps.0
step c =
    let h : SFits w32 c.args.steps.0 = search rules in
    c.is_step.ensures ∙ ap is_step (to_z-of_z h)

pub returns-then-not-is_step : goal.returns-then-not-is_step
returns-then-not-is_step c =
    let g = c.args in
    refused g.out.now (shift-2 g.mode g.steps.0 g.count g.area.now _ (good (goal.at.returns-then-not-is_step c).Else-not-well_formed) (sym (step (goal.at.returns-then-not-is_step c).After-is_step) ∙ c.if-not-is_step.true))

-- it is
steps : (c : Else-not-is_step) → is_step c.args.steps.0 ≡ true
steps c =
    sym ((let it : c.is_step.result ≡ is_step c.args.steps.0 = let h : SFits w32 c.args.steps.0 = search rules in
    c.is_step.ensures ∙ ap is_step (to_z-of_z h) in it)) ∙ c.if-not-is_step.false

pub fits_shifted-requires : goal.fits_shifted-requires
fits_shifted-requires c = (good (goal.at.fits_shifted-requires c).Else-not-well_formed, omega (arith, c.min-limit.ensures))

pub returns-then-not-fits_shifted : goal.returns-then-not-fits_shifted
returns-then-not-fits_shifted c =
    let g = c.args in
    refused g.out.now
    (shift-5 g.mode g.steps.0 g.count g.area.now _ (good (goal.at.returns-then-not-fits_shifted c).Else-not-well_formed) (steps (goal.at.returns-then-not-fits_shifted c).Else-not-is_step)
    (fits-no _ c.min-limit.result _ c.fits_shifted.result c.min-limit.ensures c.fits_shifted.ensures c.if-not-fits_shifted.true))

pub write_shifted-requires : goal.write_shifted-requires
write_shifted-requires c =
    (good (goal.at.write_shifted-requires c).Else-not-well_formed, room_for _ c.min-limit.result _ c.fits_shifted.result c.min-limit.ensures c.fits_shifted.ensures c.if-not-fits_shifted.false)

pub returns : goal.returns
returns c =
    let g = c.args in
    let e = c.write_shifted.ensures in
    finished g.out.now
    (shift-yes g.mode g.steps.0 g.count g.area.now _ (good (goal.at.returns c).Else-not-well_formed) (steps (goal.at.returns c).Else-not-is_step)
    (fits_all _ c.min-limit.result _ c.fits_shifted.result c.min-limit.ensures c.fits_shifted.ensures c.if-not-fits_shifted.false))
    e.0 e.1 e.2
