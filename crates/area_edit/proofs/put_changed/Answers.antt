use Prim.Native.Nat.{◌+◌}
use native.Mathlib.Omega.{arith}
use lib.ListN.{length}
use Rattle.lists.specs.Le.{u32le, read_u32}
use Rattle.lists.specs.Write.{part}
use Rattle.lists.proofs.Wrote.{start, next}
use Rattle.items.specs.Items.{as_text}
use Rattle.area_edit.specs.Edits.{changed}
use Rattle.area_edit.proofs.put_changed.Goals as goal

pub returns : goal.returns
unfolding changed
returns c =
    let g = c.args in
    let e3 = c.put_part-c.ensures in
    let flags = as_text (read_u32 g.area.now (g.start + 4)) in
    let w1 = next (start g.out.now g.at (omega (arith, c.requires))) (u32le (length g.value.now)) c.put_u32_le-a.ensures in
    let w2 = next w1 (u32le flags) (rw (c.as_text.ensures, c.read_u32_le.ensures) at c.put_u32_le-b.ensures) in
    let w3 = next w2 (part (g.start + 8) (g.stop + 1) g.area.now) (e3.0, e3.1) in
    let w4 = next w3 g.value.now c.put.ensures in
    (w4.ends, w4.is, omega (arith, c.put_u32_le-a.ensures.0, c.put_u32_le-b.ensures.0, e3.2, c.put.ensures.0, c.requires))
