use mathlib.Core.Path.{◌∙◌}
use native.Mathlib.Nat.{zero-add}
use native.Mathlib.Omega.{arith}
use Rattle.lists.proofs.Wrote.{start, next, from_start}
use Rattle.area_edit.specs.Edits.{fresh, appended}
use Rattle.area_edit.proofs.put_appended.Goals as goal

pub returns : goal.returns
unfolding appended
returns c =
    let g = c.args in
    let w1 = next (start g.out.now 0 (omega arith)) g.area.now c.put-a.ensures in
    let w2 = next w1 (fresh g.key.now g.value.now) c.put_item.ensures in
    (w2.ends ∙ zero-add _, from_start w2)
