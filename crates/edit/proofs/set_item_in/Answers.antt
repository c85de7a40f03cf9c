-- The items are edited in the lent array, and read back from it.
use mathlib.Core.Path.{◌≡◌, ap, ◌∙◌}
use Rattle.std.specs.Prelude.{Some}
use mathlib.Core.List.{List}
use Prim.Native.Nat.{ℕ, ◌+◌, ◌-◌, ◌≤◌}
use native.Mathlib.Omega.{arith}
use borrow.Author.Rules.{rules}
use lib.ListN.{length, take}
use Rattle.lists.specs.Write.{part}
use Rattle.lists.proofs.Places.{length_part}
use Rattle.keys.proofs.Keys.{key-length}
use Rattle.items.specs.Items.{Item, area_bytes, parse, items_in, set_item}
use Rattle.items.proofs.ItemLaws.{area_set, sane-set, sane-key}
use Rattle.calls.specs.Gate.{items_of}
use Rattle.items.proofs.Area.{area-length, read_back, back-good}
use Rattle.gate.proofs.Gates.{passed-sane}
use Rattle.edit.proofs.set_item_in.Goals as goal
use Rattle.edit.proofs.set_item_in.Goals.{After-write_set-m, Start}

-- the new items, as the code finds them
abbrev area : (b : Start) → List ℕ
area b = part b.args.place.start b.args.place.end b.args.file.now

abbrev new : (b : Start) → List Item
new b = set_item b.args.key.now b.args.value.now (items_in b.args.place.count (area b))

long : (b : Start) → length (area_bytes (new b)) ≤ b.args.place.end - b.args.place.start + 9 + length b.args.key.now + length b.args.value.now
long b =
    let g = b.args in
    omega (arith, area_set g.key.now g.value.now (items_in g.place.count (area b)), area-length g.place.count (area b) b.requires.0.good, length_part g.place.start g.place.end g.file.now b.requires.0.within)

-- they are few bytes
bounded : (b : Start) → length (area_bytes (new b)) ≤ 66048
bounded b = omega (arith, long b, b.requires.0.short, key-length b.args.key.now b.requires.2, b.requires.3)

pub write_set-m-requires : goal.write_set-m-requires
write_set-m-requires c =
    (c.in_ok-p.ensures, omega (arith, c.requires.3), omega (arith, long (goal.at.write_set-m-requires c).Start, c.requires.4))

pub slice_bounds-finish-end : goal.slice_bounds-finish-end
slice_bounds-finish-end c =
    let h : c.write_set-m.result.length ≤ length c.args.new.now = omega (arith, c.write_set-m.ensures.1, long (goal.at.slice_bounds-finish-end c).Start, c.requires.4) in
    search rules

-- what stands in the array
abbrev array : (c : After-write_set-m) → List ℕ
array c = c.write_set-m.new.out

stands : (c : After-write_set-m) → parse c.write_set-m.result.count (take c.write_set-m.result.length (array c)) ≡ Some ((set_item c.args.key.now c.args.value.now (items_in c.args.place.count ((part c.args.place.start c.args.place.end c.args.file.now)))))
stands c =
    let g = c.args in
    let w = c.write_set-m.ensures in
    read_back ((set_item c.args.key.now c.args.value.now (items_in c.args.place.count ((part c.args.place.start c.args.place.end c.args.file.now))))) (array c) _ c.write_set-m.result.length c.write_set-m.result.count w.2 w.1 w.0
    (sane-set g.key.now g.value.now (items_in g.place.count ((part c.args.place.start c.args.place.end c.args.file.now))) (sane-key g.key.now c.requires.2) (passed-sane c.requires.0))
    (omega (
      arith,
      (let it : length (area_bytes ((set_item c.args.key.now c.args.value.now (items_in c.args.place.count ((part c.args.place.start c.args.place.end c.args.file.now)))))) ≤ 66048 = omega (
        arith,
        (let it : length (area_bytes ((set_item c.args.key.now c.args.value.now (items_in c.args.place.count ((part c.args.place.start c.args.place.end c.args.file.now)))))) ≤ c.args.place.end - c.args.place.start + 9 + length c.args.key.now + length c.args.value.now = let g = c.args in
            omega (arith, area_set g.key.now g.value.now (items_in g.place.count ((part c.args.place.start c.args.place.end c.args.file.now))), area-length g.place.count ((part c.args.place.start c.args.place.end c.args.file.now)) c.requires.0.good, length_part g.place.start g.place.end g.file.now c.requires.0.within) in it),
        c.requires.0.short,
        key-length c.args.key.now c.requires.2,
        c.requires.3,
      ) in it),
    ))

pub finish-requires : goal.finish-requires
finish-requires c =
    (c.requires.1, (back-good c.write_set-m.result.count (take c.write_set-m.result.length (array (goal.at.finish-requires c).After-write_set-m)) (stands (goal.at.finish-requires c).After-write_set-m)).0)

pub returns : goal.returns
returns c =
    let i : items_in c.write_set-m.result.count (take c.write_set-m.result.length (array (goal.at.returns c).After-write_set-m)) ≡ set_item c.args.key.now c.args.value.now (items_of c.args.file.now) =
    (back-good c.write_set-m.result.count (take c.write_set-m.result.length (array (goal.at.returns c).After-write_set-m)) (stands (goal.at.returns c).After-write_set-m)).1 ∙ ap (set_item c.args.key.now c.args.value.now) c.requires.0.items in
    rw (← i) c.finish.ensures
