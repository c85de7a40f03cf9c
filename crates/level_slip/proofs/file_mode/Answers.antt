use mathlib.Core.Path.{◌≡◌, ap, ◌∙◌}
use Rattle.std.specs.Prelude.{None}
use native.Mathlib.Omega.{arith}
use borrow.Author.Rules.{rules}
use Rattle.calls.specs.Calls.{resolved}
use Rattle.gate.specs.Gate.{Passed}
use Rattle.gate.proofs.Gates.{gate-unfit, gate-passed}
use Rattle.level_slip.proofs.Resolving.{unfit-mode}
use Rattle.level_slip.proofs.file_mode.Goals as goal
use Rattle.level_slip.proofs.file_mode.Goals.{In-Ok}

pub returns-in-Err : goal.returns-in-Err
returns-in-Err c = let s = c.args.file.now in unfit-mode s (gate-unfit s c.gate.ensures c.in-Err.is).0

passed : (c : In-Ok) → Passed c.args.file.now c.in-Ok.area
passed c = gate-passed c.args.file.now c.gate.ensures c.in-Ok.is

pub returns-in-Ok : goal.returns-in-Ok
returns-in-Ok c = c.unnamed_mode.ensures ∙ ap (resolved None) (passed (goal.at.returns-in-Ok c).In-Ok).items

pub slice_bounds-unnamed_mode-count : goal.slice_bounds-unnamed_mode-count
slice_bounds-unnamed_mode-count c = let p = passed (goal.at.slice_bounds-unnamed_mode-count c).In-Ok in omega (arith, p.order)

pub slice_bounds-unnamed_mode-start : goal.slice_bounds-unnamed_mode-start
slice_bounds-unnamed_mode-start c = let p = passed (goal.at.slice_bounds-unnamed_mode-start c).In-Ok in omega (arith, p.order)

pub slice_bounds-unnamed_mode-end : goal.slice_bounds-unnamed_mode-end
slice_bounds-unnamed_mode-end c = let p = passed (goal.at.slice_bounds-unnamed_mode-end c).In-Ok in omega (arith, p.within)

pub unnamed_mode-requires : goal.unnamed_mode-requires
unnamed_mode-requires c = (passed (goal.at.unnamed_mode-requires c).In-Ok).good
