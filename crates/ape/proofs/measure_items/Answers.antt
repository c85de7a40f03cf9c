use Rattle.std.specs.Prelude.{None}
use mathlib.Core.Path.{refl, ◌≡◌, sym, ◌∙◌}
use mathlib.Core.List.{[]}
use Prim.Native.Nat.{suc, ◌+◌, ◌-◌, ◌≤◌, ◌<◌}
use native.Mathlib.Omega.{arith}
use native.Mathlib.Nat.{add-zero, zero-add}
use borrow.Author.Rules.{rules}
use borrow.Author.Tests.{le-leb, lt-leb}
use lib.ListN.{length, drop}
use Rattle.lists.specs.Write.{part}
use Rattle.items.specs.Items.{Item, area_bytes, item_bytes}
use Rattle.items.proofs.Area.{length-item, length-area}
use Rattle.ape.specs.Tag.{converted, read_items}
use Rattle.ape.proofs.Reading.{Turn, turn, ended, read_none}
use Rattle.ape.proofs.Sizing.{fits_told, none_told}
use Rattle.ape.proofs.measure_items.Goals as goal
use Rattle.ape.proofs.measure_items.Goals.{At-loop-read, In_ok-length, In-Item}

-- nothing is left to be read
whole : (c : At-loop-read) → read_items (c.args.count - c.loop-read.read) (drop c.loop-read.at c.args.items.now) ≡ []
    → (length (read_items c.args.count c.args.items.now) ≡ c.loop-read.read)
    × (length (area_bytes (read_items c.args.count c.args.items.now)) ≡ c.loop-read.length)
unfolding area_bytes
whole c e = (c.loop-read.invariant.1 ∙ rw e (add-zero _), c.loop-read.invariant.2 ∙ rw e (add-zero _))

pub returns-in_default : goal.returns-in_default
returns-in_default c =
    let g = c.args in
    let (n, s) = whole (goal.at.returns-in_default c).At-loop-read (ended g.items.now c.loop-read.at (c.args.count - c.loop-read.read) c.step.result c.step.ensures c.in_default.not-Item) in
    let fits : length (area_bytes (read_items g.count g.items.now)) ≤ g.room = omega arith in
    rw (le-leb _ _ fits, n, s)

-- one turn, where the step found an item
here : (c : In-Item) → Turn c.args.items.now c.loop-read.at (c.args.count - c.loop-read.read) (c.args.count - (c.loop-read.read + 1)) c.in-Item.flags c.in-Item.key_start c.in-Item.key_end c.in-Item.value_start c.in-Item.value_end
here c = turn c.args.items.now c.loop-read.at (c.args.count - c.loop-read.read) (c.args.count - (c.loop-read.read + 1)) (omega arith) (sym c.in-Item.is ∙ c.step.ensures)

-- the item that it reads
abbrev item_of : (c : In-Item) → Item
item_of c =
    let g = c.args in
    converted c.in-Item.flags (part c.in-Item.key_start c.in-Item.key_end g.items.now) (part c.in-Item.value_start c.in-Item.value_end g.items.now)

-- what it adds
grown : (c : In-Item) → let g = c.args in
    let l = c.loop-read in
    let rest = read_items (c.args.count - (l.read + 1)) (drop c.in-Item.value_end g.items.now) in
    (length (read_items g.count g.items.now) ≡ l.read + suc (length rest))
    × (length (area_bytes (read_items g.count g.items.now)) ≡ l.length + (length (item_bytes (item_of c)) + length (area_bytes rest)))
grown c =
    let l = c.loop-read in
    let t = here c in
    (l.invariant.1 ∙ rw t.list, l.invariant.2 ∙ rw (t.list, length-area, length-item))

pub returns-in_err-length : goal.returns-in_err-length
returns-in_err-length c =
    let g = c.args in
    let (n, s) = grown (goal.at.returns-in_err-length c).In-Item in
    let more = none_told (item_bytes (item_of (goal.at.returns-in_err-length c).In-Item)) (g.room - c.loop-read.length) c.converted_size.ensures c.in_err-length.was in
    let long : g.room < length (area_bytes (read_items g.count g.items.now)) = omega arith in
    let r : c.from_residual.result ≡ None = search rules in
    rw (lt-leb _ _ long, r) refl

-- the size of the item is the one that was measured, and fits
told : (c : In_ok-length) → let g = c.args in
    (c.in_ok-length.field-0 ≡ length (item_bytes ((let g = c.args in
    converted c.in-Item.flags (part c.in-Item.key_start c.in-Item.key_end g.items.now) (part c.in-Item.value_start c.in-Item.value_end g.items.now))))) × (length (item_bytes ((let g = c.args in
    converted c.in-Item.flags (part c.in-Item.key_start c.in-Item.key_end g.items.now) (part c.in-Item.value_start c.in-Item.value_end g.items.now)))) ≤ g.room - c.loop-read.length) × (9 ≤ length (item_bytes ((let g = c.args in
    converted c.in-Item.flags (part c.in-Item.key_start c.in-Item.key_end g.items.now) (part c.in-Item.value_start c.in-Item.value_end g.items.now)))))
told c =
    let (e, h) = fits_told (item_bytes ((let g = c.args in
    converted c.in-Item.flags (part c.in-Item.key_start c.in-Item.key_end g.items.now) (part c.in-Item.value_start c.in-Item.value_end g.items.now)))) (c.args.room - c.loop-read.length) c.converted_size.ensures c.in_ok-length.was in
    (e, h, rw length-item (omega arith))

pub loop-read-preserved : goal.loop-read-preserved
loop-read-preserved c =
    let (e, h, m) = told c in
    let (n, s) = grown (goal.at.loop-read-preserved c).In-Item in
    (omega arith, omega (arith, n), omega (arith, s))

pub returns : goal.returns
returns c =
    let g = c.args in
    let z : (c.args.count - c.loop-read.read) ≡ 0 = omega arith in
    let (n, s) = whole (goal.at.returns c).At-loop-read (rw z (read_none (drop c.loop-read.at g.items.now))) in
    let fits : length (area_bytes (read_items g.count g.items.now)) ≤ g.room = omega arith in
    let all : c.args.count ≡ c.loop-read.read = omega arith in
    rw (le-leb _ _ fits, n ∙ sym all, s)

pub slice_bounds-converted_size-count : goal.slice_bounds-converted_size-count
slice_bounds-converted_size-count c = let t = here c in omega arith

pub slice_bounds-converted_size-start : goal.slice_bounds-converted_size-start
slice_bounds-converted_size-start c = let t = here c in omega arith

pub slice_bounds-converted_size-end : goal.slice_bounds-converted_size-end
slice_bounds-converted_size-end c = let t = here c in omega arith

pub slice_bounds-converted_size-count-in-loop-read : goal.slice_bounds-converted_size-count-in-loop-read
slice_bounds-converted_size-count-in-loop-read c = let t = here (goal.at.slice_bounds-converted_size-count-in-loop-read c).In-Item in omega arith

pub slice_bounds-converted_size-start-in-loop-read : goal.slice_bounds-converted_size-start-in-loop-read
slice_bounds-converted_size-start-in-loop-read c = let t = here (goal.at.slice_bounds-converted_size-start-in-loop-read c).In-Item in omega arith

pub slice_bounds-converted_size-end-in-loop-read : goal.slice_bounds-converted_size-end-in-loop-read
slice_bounds-converted_size-end-in-loop-read c = let t = here (goal.at.slice_bounds-converted_size-end-in-loop-read c).In-Item in omega arith

pub converted_size-requires : goal.converted_size-requires
converted_size-requires c = c.requires

pub overflow_add-length : goal.overflow_add-length
overflow_add-length c = let t = told c in omega arith
