-- The moved items are read back from the output, those with the undo item from the other array.
use mathlib.Core.Path.{◌≡◌}
use Rattle.std.specs.Prelude.{Some}
use mathlib.Core.List.{List}
use Prim.Native.Nat.{ℕ, ◌≤◌}
use native.Mathlib.Omega.{arith}
use borrow.Author.Rules.{rules}
use lib.ListN.{length, take}
use Rattle.keys.specs.Keys.{undo_key}
use Rattle.values.specs.Undo.{format_undo}
use Rattle.items.specs.Items.{Item, area_bytes, parse, items_in, set_item}
use Rattle.items.proofs.Area.{AllSane, count-items, area-length, read_back, back-good}
use Rattle.items.proofs.ItemLaws.{parse-sane}
use Rattle.items.specs.declared.Size.{Size}
use Rattle.calls.specs.Calls.{Level, wraps, shifted_items}
use Rattle.calls.proofs.Items.{shifted-sane}
use Rattle.level_items.specs.Items.{Wrote, undone_items, ranged_items}
use Rattle.level_items.proofs.Moved.{moved-short, undone-sane, undone-short, ranged-short}
use Rattle.gains.specs.Moves.{level_by}
use Rattle.level_items.proofs.write_items.Goals as goal
use Rattle.level_items.proofs.write_items.Goals.{After-put_moved-moved, After-put_undo-undone, Start}

-- what level is asked, and the items that it finds
abbrev asked : (b : Start) → Level
asked b = level_by b.args.moves

abbrev there : (b : Start) → List Item
there b = items_in b.args.count b.args.area.now

-- their number and size
few : (b : Start) → length (there b) ≡ b.args.count
few b = count-items b.args.count b.args.area.now b.requires.0

small : (b : Start) → length (area_bytes (there b)) ≡ length b.args.area.now
small b = area-length b.args.count b.args.area.now b.requires.0

-- they can be read back
sane : (c : After-put_moved-moved) → AllSane ((items_in c.args.count c.args.area.now))
sane c = parse-sane c.args.count c.args.area.now (λ i. omega (arith, c.shared_slice_known-1.given i))

pub put_moved-moved-requires : goal.put_moved-moved-requires
put_moved-moved-requires c =
    (c.requires.0, omega (arith, moved-short (asked (goal.at.put_moved-moved-requires c).Start) (there (goal.at.put_moved-moved-requires c).Start), few (goal.at.put_moved-moved-requires c).Start, small (goal.at.put_moved-moved-requires c).Start, c.requires.4))

-- the output, with the moved items at its front
abbrev moved : (c : After-put_moved-moved) → List ℕ
moved c = c.put_moved-moved.new.out

moved-stand : (c : After-put_moved-moved) → parse c.put_moved-moved.result.count (take c.put_moved-moved.result.length (moved c)) ≡ Some (shifted_items (level_by c.args.moves) ((items_in c.args.count c.args.area.now)))
moved-stand c =
    let w = c.put_moved-moved.ensures in
    read_back (shifted_items (level_by c.args.moves) ((items_in c.args.count c.args.area.now))) (moved c) _ c.put_moved-moved.result.length c.put_moved-moved.result.count w.2 w.1 w.0
    (shifted-sane (level_by c.args.moves) ((items_in c.args.count c.args.area.now)) (sane c))
    (omega (arith, moved-short (level_by c.args.moves) ((items_in c.args.count c.args.area.now)), (let it : length ((items_in c.args.count c.args.area.now)) ≡ c.args.count = count-items c.args.count c.args.area.now c.requires.0 in it), (let it : length (area_bytes ((items_in c.args.count c.args.area.now))) ≡ length c.args.area.now = area-length c.args.count c.args.area.now c.requires.0 in it), c.requires.1, c.requires.2))

pub slice_bounds-put_undo-end : goal.slice_bounds-put_undo-end
slice_bounds-put_undo-end c =
    let h : c.put_moved-moved.result.length ≤ length c.args.out.now = omega (arith, c.put_moved-moved.ensures.1, moved-short (asked (goal.at.slice_bounds-put_undo-end c).Start) (there (goal.at.slice_bounds-put_undo-end c).Start), few (goal.at.slice_bounds-put_undo-end c).Start, small (goal.at.slice_bounds-put_undo-end c).Start, c.requires.4) in
    search rules

pub put_undo-undone-requires : goal.put_undo-undone-requires
unfolding undone_items
put_undo-undone-requires c =
    let g = back-good c.put_moved-moved.result.count (take c.put_moved-moved.result.length (moved (goal.at.put_undo-undone-requires c).After-put_moved-moved)) (moved-stand (goal.at.put_undo-undone-requires c).After-put_moved-moved) in
    (g.0, rw g.1 (omega (arith, undone-short (asked (goal.at.put_undo-undone-requires c).Start) c.args.undo (there (goal.at.put_undo-undone-requires c).Start), few (goal.at.put_undo-undone-requires c).Start, small (goal.at.put_undo-undone-requires c).Start, c.requires.3)))

-- the other array, with the items after the undo item was set
abbrev undone : (c : After-put_undo-undone) → List ℕ
undone c = c.put_undo-undone.new.out

wrote-same : (g : List Item → List Item) {us ts : List Item} (out : List ℕ) (r : Size) {after : List ℕ} → us ≡ ts → Wrote (g us) out r after → Wrote (g ts) out r after
wrote-same g out r e w = rw (← e) w

-- it holds what put_undo makes of the moved ones
found : (c : After-put_undo-undone) → items_in c.put_moved-moved.result.count (take c.put_moved-moved.result.length c.put_moved-moved.new.out) ≡ shifted_items (level_by c.args.moves) ((items_in c.args.count c.args.area.now))
found c =
    (back-good c.put_moved-moved.result.count (take c.put_moved-moved.result.length c.put_moved-moved.new.out) ((let it : parse c.put_moved-moved.result.count (take c.put_moved-moved.result.length c.put_moved-moved.new.out) ≡ Some (shifted_items (level_by c.args.moves) ((items_in c.args.count c.args.area.now))) = let w = c.put_moved-moved.ensures in
    read_back (shifted_items (level_by c.args.moves) ((items_in c.args.count c.args.area.now))) c.put_moved-moved.new.out _ c.put_moved-moved.result.length c.put_moved-moved.result.count w.2 w.1 w.0
    (shifted-sane (level_by c.args.moves) ((items_in c.args.count c.args.area.now)) ((let it : AllSane ((items_in c.args.count c.args.area.now)) = parse-sane c.args.count c.args.area.now (λ i. omega (arith, c.shared_slice_known-1.given i)) in it)))
    (omega (arith, moved-short (level_by c.args.moves) ((items_in c.args.count c.args.area.now)), (let it : length ((items_in c.args.count c.args.area.now)) ≡ c.args.count = count-items c.args.count c.args.area.now c.requires.0 in it), (let it : length (area_bytes ((items_in c.args.count c.args.area.now))) ≡ length c.args.area.now = area-length c.args.count c.args.area.now c.requires.0 in it), c.requires.1, c.requires.2)) in it))).1

abbrev with-undo : (c : After-put_undo-undone) → List Item → List Item
with-undo c ts = set_item undo_key (format_undo c.args.undo.left c.args.undo.right (wraps c.args.moves.mode)) ts

wrote-undone : (c : After-put_undo-undone) → Wrote (undone_items (level_by c.args.moves) c.args.undo ((items_in c.args.count c.args.area.now))) c.args.work.now c.put_undo-undone.result (undone c)
unfolding undone_items
wrote-undone c = wrote-same (with-undo c) _ c.put_undo-undone.result (found c) c.put_undo-undone.ensures

undone-stand : (c : After-put_undo-undone) → parse c.put_undo-undone.result.count (take c.put_undo-undone.result.length (undone c)) ≡ Some (undone_items (level_by c.args.moves) c.args.undo ((items_in c.args.count c.args.area.now)))
undone-stand c =
    let w = (wrote-undone c) in
    read_back (undone_items (level_by c.args.moves) c.args.undo ((items_in c.args.count c.args.area.now))) (undone c) _ c.put_undo-undone.result.length c.put_undo-undone.result.count w.2 w.1 w.0
    (undone-sane (level_by c.args.moves) c.args.undo ((items_in c.args.count c.args.area.now)) ((let it : AllSane ((items_in c.args.count c.args.area.now)) = parse-sane c.args.count c.args.area.now (λ i. omega (arith, c.shared_slice_known-1.given i)) in it)))
    (omega (arith, undone-short (level_by c.args.moves) c.args.undo ((items_in c.args.count c.args.area.now)), (let it : length ((items_in c.args.count c.args.area.now)) ≡ c.args.count = count-items c.args.count c.args.area.now c.requires.0 in it), (let it : length (area_bytes ((items_in c.args.count c.args.area.now))) ≡ length c.args.area.now = area-length c.args.count c.args.area.now c.requires.0 in it), c.requires.1, c.requires.2))

pub slice_bounds-put_range-end : goal.slice_bounds-put_range-end
slice_bounds-put_range-end c =
    let h : c.put_undo-undone.result.length ≤ length c.args.work.now = omega (arith, (wrote-undone (goal.at.slice_bounds-put_range-end c).After-put_undo-undone).1, undone-short (asked (goal.at.slice_bounds-put_range-end c).Start) c.args.undo (there (goal.at.slice_bounds-put_range-end c).Start), few (goal.at.slice_bounds-put_range-end c).Start, small (goal.at.slice_bounds-put_range-end c).Start, c.requires.3) in
    search rules

pub put_range-requires : goal.put_range-requires
unfolding ranged_items
put_range-requires c =
    let g = back-good c.put_undo-undone.result.count (take c.put_undo-undone.result.length (undone (goal.at.put_range-requires c).After-put_undo-undone)) (undone-stand (goal.at.put_range-requires c).After-put_undo-undone) in
    (g.0, rw g.1 (omega (arith, ranged-short (asked (goal.at.put_range-requires c).Start) c.args.undo c.args.range (there (goal.at.put_range-requires c).Start), few (goal.at.put_range-requires c).Start, small (goal.at.put_range-requires c).Start, c.requires.4)))

pub returns : goal.returns
unfolding ranged_items
returns c =
    let g = back-good c.put_undo-undone.result.count (take c.put_undo-undone.result.length (undone (goal.at.returns c).After-put_undo-undone)) (undone-stand (goal.at.returns c).After-put_undo-undone) in
    (rw (← g.1, ← c.put_moved-moved.ensures.2) c.put_range.ensures, (wrote-undone (goal.at.returns c).After-put_undo-undone).2)
