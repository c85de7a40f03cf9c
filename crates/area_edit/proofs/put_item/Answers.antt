use mathlib.Core.List.{◌∷◌, []}
use native.Mathlib.Omega.{arith}
use lib.ListN.{length}
use Rattle.lists.specs.Le.{u32le}
use Rattle.lists.proofs.Wrote.{start, next, done}
use Rattle.keys.specs.Keys.{upper_all}
use Rattle.keys.proofs.Keys.{length-upper}
use Rattle.area_edit.specs.Edits.{fresh}
use Rattle.area_edit.proofs.put_item.Goals as goal

pub returns : goal.returns
unfolding fresh
returns c =
    let g = c.args in
    let w1 = next (start g.out.now g.at (omega (arith, c.requires))) (u32le (length g.value.now)) c.put_u32_le-a.ensures in
    let w2 = next w1 (u32le 0) c.put_u32_le-b.ensures in
    let w3 = next w2 (upper_all g.key.now) (rw (← length-upper g.key.now) at c.put_upper-c.ensures) in
    let w4 = next w3 (0 ∷ []) c.put-d.ensures in
    done (next w4 g.value.now c.put.ensures)
