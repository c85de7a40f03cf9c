use mathlib.Core.Path.{◌∙◌}
use native.Mathlib.Nat.{zero-add}
use native.Mathlib.Omega.{arith}
use lib.ListN.{length}
use Rattle.lists.specs.Write.{part}
use Rattle.lists.proofs.Wrote.{start, next, from_start}
use Rattle.area_edit.specs.Edits.{changed, replaced}
use Rattle.area_edit.proofs.put_replaced.Goals as goal

pub returns : goal.returns
unfolding replaced
returns c =
    let g = c.args in
    let s = g.area.now in
    let e1 = c.put_part-a.ensures in
    let e2 = c.put_changed-b.ensures in
    let e3 = c.put_part.ensures in
    let w1 = next (start g.out.now 0 (omega arith)) (part 0 g.p.start s) (e1.0, e1.1) in
    let w2 = next w1 (changed s g.p.start g.p.key_end g.value.now) (e2.0, e2.1) in
    let w3 = next w2 (part g.p.end (length s) s) (e3.0, e3.1) in
    (w3.ends ∙ zero-add _, from_start w3)
