use mathlib.Core.Path.{◌≡◌, sym, ◌∙◌}
use mathlib.Core.Bool.{true}
use borrow.Author.Rules.{rules}
use borrow.Author.Tests.{not-true, not-false}
use Rattle.lists.specs.Choice.{is_some}
use Rattle.utf8.proofs.Rule.{class-table}
use Rattle.items.specs.Items.{parse}
use Rattle.calls.specs.Gate.{all_valid}
use Rattle.gate.proofs.Clean.{provided-some, provided-none}
use Rattle.gate.proofs.is_clean.Goals as goal
use Rattle.gate.proofs.is_clean.Goals.{Else-not-well_formed}

pub returns-then-not-well_formed : goal.returns-then-not-well_formed
returns-then-not-well_formed c =
    let g = c.args in
    sym (provided-none all_valid (parse g.count g.area.now) (sym c.well_formed-2.ensures ∙ c.if-not-well_formed.true))

-- the area is well formed
good : (c : Else-not-well_formed) → is_some (parse c.args.count c.args.area.now) ≡ true
good c = sym c.well_formed-2.ensures ∙ c.if-not-well_formed.false

pub all_valid-requires : goal.all_valid-requires
all_valid-requires c = (class-table, good (goal.at.all_valid-requires c).Else-not-well_formed)

pub returns : goal.returns
returns c =
    let g = c.args in
    c.all_valid.ensures ∙ sym (provided-some all_valid (parse g.count g.area.now) (good (goal.at.returns c).Else-not-well_formed))
