use mathlib.Core.Path.{◌∙◌}
use mathlib.Core.List.{[], ◌∷◌}
use native.Mathlib.Nat.{zero-add}
use native.Mathlib.Omega.{arith}
use Rattle.lists.specs.Bytes.{ascii}
use Rattle.lists.proofs.Wrote.{start, next, from_start}
use Rattle.decimal.specs.Writing.{decimal}
use Rattle.items.specs.Items.{items_in}
use Rattle.items.proofs.Area.{count-items}
use Rattle.listing.specs.Listing.{lines}
use Rattle.listing.proofs.Tags.{items-listing}
use Rattle.listing.proofs.put_listed.Goals as goal

pub returns : goal.returns
returns c =
    let g = c.args in
    let d = c.put_decimal-b.ensures in
    let w1 = next (start g.out.now 0 (omega arith)) (ascii "items=") c.put-a.ensures in
    let w2 = next w1 (decimal 1 9 g.count) (d.0, d.1) in
    let w3 = next w2 (0x0A ∷ []) c.put-c.ensures in
    let w4 = next w3 (lines (items_in g.count g.area.now)) c.put_lines.ensures in
    rw (items-listing (items_in g.count g.area.now) g.count (count-items g.count g.area.now c.requires.0)) (w4.ends ∙ zero-add _, from_start w4)
