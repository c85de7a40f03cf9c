-- The items are made in the lent arrays, and read back from the last of them.
use mathlib.Core.Path.{◌≡◌, ap, ◌∙◌}
use Rattle.std.specs.Prelude.{Some}
use mathlib.Core.List.{List}
use Prim.Native.Nat.{ℕ, ◌+◌, ◌-◌, ◌*◌, ◌≤◌}
use native.Mathlib.Omega.{arith}
use borrow.Author.Rules.{rules}
use lib.ListN.{length, take}
use Rattle.lists.specs.Write.{part}
use Rattle.lists.proofs.Places.{length_part}
use Rattle.items.specs.Items.{Item, area_bytes, parse, items_in}
use Rattle.items.proofs.Area.{count-items, area-length, read_back, back-good}
use Rattle.calls.specs.Gate.{items_of}
use Rattle.calls.specs.Calls.{Level, peaks_kept}
use Rattle.level_items.specs.Items.{ranged_items}
use Rattle.level_items.proofs.Moved.{ranged-sane, ranged-short}
use Rattle.gate.proofs.Gates.{passed-sane}
use Rattle.gains.specs.Moves.{level_by}
use Rattle.level.proofs.write_file_in.Goals as goal
use Rattle.level.proofs.write_file_in.Goals.{After-write_items-m, Start}

-- what level is asked, the items as the code finds them, and the new ones
abbrev asked : (b : Start) → Level
asked b = level_by b.args.moves

abbrev area : (b : Start) → List ℕ
area b = part b.args.place.start b.args.place.end b.args.file.now

abbrev new : (b : Start) → List Item
new b = ranged_items (asked b) b.args.undo b.args.range (items_in b.args.place.count (area b))

size : (b : Start) → length (area b) ≡ b.args.place.end - b.args.place.start
size b = length_part b.args.place.start b.args.place.end b.args.file.now b.requires.0.within

long : (b : Start) → length (area_bytes (new b)) ≤ b.args.place.end - b.args.place.start + 32 * b.args.place.count + 76
long b =
    let ts = items_in b.args.place.count (area b) in
    omega (arith, ranged-short (asked b) b.args.undo b.args.range ts, count-items b.args.place.count (area b) b.requires.0.good, area-length b.args.place.count (area b) b.requires.0.good, size b)

pub write_items-m-requires : goal.write_items-m-requires
write_items-m-requires c =
    (c.requires.0.good, c.requires.0.few, omega (arith, size (goal.at.write_items-m-requires c).Start, c.requires.0.short), omega (arith, size (goal.at.write_items-m-requires c).Start, c.requires.2), omega (arith, size (goal.at.write_items-m-requires c).Start, c.requires.3))

pub slice_bounds-filed-end : goal.slice_bounds-filed-end
slice_bounds-filed-end c =
    let h : c.write_items-m.result.length ≤ length c.args.new.now = omega (arith, c.write_items-m.ensures.0.1, long (goal.at.slice_bounds-filed-end c).Start, c.requires.3) in
    search rules

-- the array with the new items at its front
abbrev array : (c : After-write_items-m) → List ℕ
array c = c.write_items-m.new.out

stands : (c : After-write_items-m) → parse c.write_items-m.result.count (take c.write_items-m.result.length (array c)) ≡ Some ((ranged_items (level_by c.args.moves) c.args.undo c.args.range (items_in c.args.place.count ((part c.args.place.start c.args.place.end c.args.file.now)))))
stands c =
    let w = c.write_items-m.ensures.0 in
    read_back ((ranged_items (level_by c.args.moves) c.args.undo c.args.range (items_in c.args.place.count ((part c.args.place.start c.args.place.end c.args.file.now))))) (array c) _ c.write_items-m.result.length c.write_items-m.result.count w.2 w.1 w.0
    (ranged-sane (level_by c.args.moves) c.args.undo c.args.range (items_in c.args.place.count ((part c.args.place.start c.args.place.end c.args.file.now))) (passed-sane c.requires.0))
    (omega (
      arith,
      (let it : length (area_bytes ((ranged_items (level_by c.args.moves) c.args.undo c.args.range (items_in c.args.place.count ((part c.args.place.start c.args.place.end c.args.file.now)))))) ≤ c.args.place.end - c.args.place.start + 32 * c.args.place.count + 76 = let ts = items_in c.args.place.count ((part c.args.place.start c.args.place.end c.args.file.now)) in
          omega (arith, ranged-short (level_by c.args.moves) c.args.undo c.args.range ts, count-items c.args.place.count ((part c.args.place.start c.args.place.end c.args.file.now)) c.requires.0.good, area-length c.args.place.count ((part c.args.place.start c.args.place.end c.args.file.now)) c.requires.0.good, (let it : length ((part c.args.place.start c.args.place.end c.args.file.now)) ≡ c.args.place.end - c.args.place.start = length_part c.args.place.start c.args.place.end c.args.file.now c.requires.0.within in it)) in it),
      c.requires.0.short,
      c.requires.0.few,
    ))

pub filed-requires : goal.filed-requires
filed-requires c =
    (c.requires.1, (back-good c.write_items-m.result.count (take c.write_items-m.result.length (array (goal.at.filed-requires c).After-write_items-m)) (stands (goal.at.filed-requires c).After-write_items-m)).0)

pub returns : goal.returns
returns c =
    let i : items_in c.write_items-m.result.count (take c.write_items-m.result.length (array (goal.at.returns c).After-write_items-m)) ≡ ranged_items (asked (goal.at.returns c).Start) c.args.undo c.args.range (items_of c.args.file.now) =
    (back-good c.write_items-m.result.count (take c.write_items-m.result.length (array (goal.at.returns c).After-write_items-m)) (stands (goal.at.returns c).After-write_items-m)).1 ∙ ap (ranged_items (asked (goal.at.returns c).Start) c.args.undo c.args.range) c.requires.0.items in
    let k : c.count_kept-peaks.result ≡ peaks_kept c.args.moves.left.0 c.args.moves.right.0 (items_of c.args.file.now) =
    c.count_kept-peaks.ensures ∙ ap (peaks_kept c.args.moves.left.0 c.args.moves.right.0) c.requires.0.items in
    rw (← i, ← k) c.filed.ensures

pub count_kept-peaks-requires : goal.count_kept-peaks-requires
count_kept-peaks-requires c = c.requires.0.good

pub shape_of-work : goal.shape_of-work
shape_of-work c = c.write_items-m.auto.work

pub shape_of-new : goal.shape_of-new
shape_of-new c = c.write_items-m.auto.out

pub shape_of-out : goal.shape_of-out
shape_of-out c = c.filed.auto.out
