use mathlib.Core.Path.{◌≡◌, refl, sym, ◌∙◌}
use mathlib.Core.Bool.{true}
use native.Mathlib.Omega.{arith}
use borrow.Author.Rules.{rules}
use borrow.Author.Tests.{le-leb, lt-leb, not-true, not-false}
use Rattle.lists.specs.Choice.{is_some}
use Rattle.items.specs.Items.{parse}
use Rattle.ape_replace.specs.Answers.{room_plan, replace_plan}
use Rattle.ape_replace.proofs.replace_ape_tag.Goals as goal
use Rattle.ape_replace.proofs.replace_ape_tag.Goals.{Else-not-well_formed}

pub returns-then-file-gt-FILE_LIMIT : goal.returns-then-file-gt-FILE_LIMIT
unfolding replace_plan
returns-then-file-gt-FILE_LIMIT c = rw (lt-leb _ _ c.if-file-gt-FILE_LIMIT.true) (refl, refl)

pub returns-then-not-well_formed : goal.returns-then-not-well_formed
unfolding replace_plan
returns-then-not-well_formed c =
    rw (le-leb _ _ c.if-file-gt-FILE_LIMIT.false, ← c.well_formed-2.ensures, c.if-not-well_formed.true) (refl, refl)

-- the area is well formed
good : (c : Else-not-well_formed) → is_some (parse c.args.count c.args.area.now) ≡ true
good c = sym c.well_formed-2.ensures ∙ c.if-not-well_formed.false

pub returns : goal.returns
unfolding replace_plan room_plan
returns c = rw (le-leb _ _ c.if-file-gt-FILE_LIMIT.false, good (goal.at.returns c).Else-not-well_formed) c.replace_items.ensures

pub replace_items-requires : goal.replace_items-requires
replace_items-requires c = (omega arith, good (goal.at.replace_items-requires c).Else-not-well_formed)
