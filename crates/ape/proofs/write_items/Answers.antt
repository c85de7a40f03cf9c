use mathlib.Core.Path.{◌≡◌, refl, sym, ◌∙◌}
use Prim.Native.Nat.{◌+◌, ◌-◌, ◌≤◌}
use native.Mathlib.Omega.{arith}
use borrow.Author.Rules.{rules}
use lib.ListN.{length, drop}
use Rattle.lists.proofs.Places.{length_part}
use Rattle.ape.proofs.Reading.{Turn, turn, ended, read_none}
use Rattle.ape.proofs.Copying.{Progress, begin, fits, turned, finished}
use Rattle.ape.proofs.write_items.Goals as goal
use Rattle.ape.proofs.write_items.Goals.{In-Item}

pub returns-in_default : goal.returns-in_default
returns-in_default c =
    let g = c.args in
    finished c.loop-read.invariant.2 (ended g.items.now c.loop-read.at (c.args.count - c.loop-read.read) c.step.result c.step.ensures c.in_default.not-Item)

-- one turn, where the step found an item
here : (c : In-Item) → Turn c.args.items.now c.loop-read.at (c.args.count - c.loop-read.read) (c.args.count - (c.loop-read.read + 1)) c.in-Item.flags c.in-Item.key_start c.in-Item.key_end c.in-Item.value_start c.in-Item.value_end
here c = turn c.args.items.now c.loop-read.at (c.args.count - c.loop-read.read) (c.args.count - (c.loop-read.read + 1)) (omega arith) (sym c.in-Item.is ∙ c.step.ensures)

pub put_item-length-requires : goal.put_item-length-requires
put_item-length-requires c =
    let t = here (goal.at.put_item-length-requires c).In-Item in
    (c.requires.0, omega (arith, length_part c.in-Item.value_start c.in-Item.value_end c.args.items.now t.within, t.value-long, c.requires.1), omega (arith, fits c.loop-read.invariant.2 t c.requires.2, c.loop-read.invariant.0))

pub loop-read-preserved : goal.loop-read-preserved
loop-read-preserved c =
    (c.put_item-length.auto.out ∙ c.loop-read.invariant.0, omega (arith, c.put_item-length.ensures.0, fits c.loop-read.invariant.2 (here (goal.at.loop-read-preserved c).In-Item) c.requires.2), turned c.loop-read.invariant.2 (here (goal.at.loop-read-preserved c).In-Item) c.put_item-length.ensures)

pub returns : goal.returns
returns c =
    let g = c.args in
    let z : (c.args.count - c.loop-read.read) ≡ 0 = omega arith in
    let all : c.args.count ≡ c.loop-read.read = omega arith in
    let e = finished c.loop-read.invariant.2 (rw z (read_none (drop c.loop-read.at g.items.now))) in
    (all ∙ e.0, e.1, e.2)

pub loop-read-init : goal.loop-read-init
loop-read-init c = let g = c.args in (refl, omega arith, begin g.items.now g.count g.out.now _ (omega arith))

pub shape_of-out-in_default : goal.shape_of-out-in_default
shape_of-out-in_default c = c.loop-read.invariant.0

pub slice_bounds-put_item-count : goal.slice_bounds-put_item-count
slice_bounds-put_item-count c = let t = here (goal.at.slice_bounds-put_item-count c).In-Item in omega arith

pub slice_bounds-put_item-start : goal.slice_bounds-put_item-start
slice_bounds-put_item-start c = let t = here (goal.at.slice_bounds-put_item-start c).In-Item in omega arith

pub slice_bounds-put_item-end : goal.slice_bounds-put_item-end
slice_bounds-put_item-end c = let t = here (goal.at.slice_bounds-put_item-end c).In-Item in omega arith

pub slice_bounds-put_item-count-in-loop-read : goal.slice_bounds-put_item-count-in-loop-read
slice_bounds-put_item-count-in-loop-read c = let t = here (goal.at.slice_bounds-put_item-count-in-loop-read c).In-Item in omega arith

pub slice_bounds-put_item-start-in-loop-read : goal.slice_bounds-put_item-start-in-loop-read
slice_bounds-put_item-start-in-loop-read c = let t = here (goal.at.slice_bounds-put_item-start-in-loop-read c).In-Item in omega arith

pub slice_bounds-put_item-end-in-loop-read : goal.slice_bounds-put_item-end-in-loop-read
slice_bounds-put_item-end-in-loop-read c = let t = here (goal.at.slice_bounds-put_item-end-in-loop-read c).In-Item in omega arith

pub shape_of-out : goal.shape_of-out
shape_of-out c = c.loop-read.invariant.0
