use mathlib.Core.Path.{◌≡◌, refl}
use native.Mathlib.Omega.{arith}
use lib.ListN.{length}
use Rattle.items.specs.Items.{area_bytes, items_in}
use Rattle.items.proofs.Area.{count-items, area-length}
use Rattle.edit.proofs.Rewriting.{too_many, too_long, fits-tag}
use Rattle.edit.proofs.finish.Goals as goal
use Rattle.edit.proofs.finish.Goals.{Start}

-- how many items there are, and how many bytes
size : (b : Start) → (length (items_in b.args.count b.args.area.now) ≡ b.args.count) × (length (area_bytes (items_in b.args.count b.args.area.now)) ≡ length b.args.area.now)
size b = (count-items b.args.count b.args.area.now b.requires.1, area-length b.args.count b.args.area.now b.requires.1)

pub returns-then-count-gt-COUNT_LIMIT : goal.returns-then-count-gt-COUNT_LIMIT
returns-then-count-gt-COUNT_LIMIT c =
    let g = c.args in
    rw (too_many g.file.now (items_in g.count g.area.now) (length g.out.now) (omega (arith, size (goal.at.returns-then-count-gt-COUNT_LIMIT c).Start, c.if-count-gt-COUNT_LIMIT.true))) (refl, refl)

pub returns-then-area-gt-AREA_LIMIT : goal.returns-then-area-gt-AREA_LIMIT
returns-then-area-gt-AREA_LIMIT c =
    let g = c.args in
    rw (too_long g.file.now (items_in g.count g.area.now) (length g.out.now) (omega (arith, size (goal.at.returns-then-area-gt-AREA_LIMIT c).Start, c.if-area-gt-AREA_LIMIT.true))) (refl, refl)

pub returns : goal.returns
returns c =
    let g = c.args in
    rw (fits-tag g.file.now (items_in g.count g.area.now) (length g.out.now) (omega (arith, size (goal.at.returns c).Start, c.if-count-gt-COUNT_LIMIT.false)) (omega (arith, size (goal.at.returns c).Start, c.if-area-gt-AREA_LIMIT.false)))
    c.replace_items.ensures
