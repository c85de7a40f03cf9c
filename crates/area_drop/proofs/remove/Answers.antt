use mathlib.Core.Path.{sym}
use lib.ListN.{length}
use Rattle.area_edit.proofs.Plans.{refused}
use Rattle.area_drop.proofs.Plans.{remove-12, remove-3, remove-good}
use Rattle.area_drop.proofs.remove.Goals as goal

pub returns-then-is_key : goal.returns-then-is_key
returns-then-is_key c =
    let g = c.args in
    rw (remove-good g.count g.area.now (length g.out.now) g.key.now (sym c.if-is_key.ensures)) c.edit_without.ensures

pub returns-then-well_formed : goal.returns-then-well_formed
returns-then-well_formed c =
    let g = c.args in
    refused g.out.now (remove-3 g.count g.area.now _ g.key.now (sym c.if-well_formed.ensures) (sym c.if-is_key.ensures))

pub returns-else-well_formed : goal.returns-else-well_formed
returns-else-well_formed c =
    let g = c.args in
    refused g.out.now (remove-12 g.count g.area.now _ g.key.now (sym c.if-well_formed.ensures))
