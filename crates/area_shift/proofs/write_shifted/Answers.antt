use mathlib.Core.Path.{sym, ◌∙◌}
use Prim.Native.Nat.{◌+◌, ◌-◌}
use native.Mathlib.Omega.{arith}
use borrow.Author.Rules.{rules}
use borrow.Author.Tests.{not-true, not-false}
use Rattle.lists.proofs.Wrote.{next}
use Rattle.items.proofs.Loops.{Turn, turn, never}
use Rattle.area_shift.proofs.Shifting.{Writing, write-begin, write-drop, write-room, write-few, write-keep, write-end}
use Rattle.area_shift.proofs.write_shifted.Goals as goal
use Rattle.area_shift.proofs.write_shifted.Goals.{In-Item, then-not-goes, else-not-goes}

pub loop-init : goal.loop-init
loop-init c =
    let g = c.args in
    write-begin g.mode g.steps.0 g.area.now g.count g.out.now c.requires.0 _ (omega arith)

pub returns-in_default : goal.returns-in_default
returns-in_default c =
    absurd (never c.loop.invariant.todo (omega arith) c.step.result c.step.ensures c.in_default.not-Item)

-- the turn's item
here : (c : In-Item) → Turn c.args.area.now c.loop.at (c.args.count - c.loop.counter) (c.args.count - (c.loop.counter + 1)) c.in-Item.key_start c.in-Item.key_end c.in-Item.value_start c.in-Item.value_end
here c = turn c.loop.invariant.todo _ (omega arith) (sym c.in-Item.is ∙ c.step.ensures)

pub put_item-o-requires : goal.put_item-o-requires
put_item-o-requires c =
    let t = here (goal.at.put_item-o-requires c).In-Item in
    let g = c.args in (
      omega (arith, t.key-end),
      omega (arith, t.key-end, t.end),
      t.rest.within,
      write-room g.mode g.steps.0 c.loop.invariant t c.goes.ensures c.if-not-goes.true (λ i. omega (arith, c.shared_slice_known-1.given i)) c.requires.1,
    )

pub overflow_add-n : goal.overflow_add-n
overflow_add-n c =
    let g = c.args in
    omega (arith, write-few g.mode g.steps.0 c.loop.invariant (here (goal.at.overflow_add-n c).In-Item) c.goes.ensures c.if-not-goes.true c.requires.0, c.ranges.count)

pub loop-preserved : goal.loop-preserved
loop-preserved c =
    let g = c.args in
    let t = here (goal.at.loop-preserved c).In-Item in
    elim c.if-not-goes.branch [
      | then-not-goes w ↦
          rw (w.out-is, w.n-is, w.o-is) (write-keep g.mode g.steps.0 c.loop.invariant t c.goes.ensures w.if-not-goes.true
          (λ i. omega (arith, c.type_inv.area i)) _ _ w.put_item-o.auto.out (next c.loop.invariant.wrote _ w.put_item-o.ensures))
      | else-not-goes w ↦ rw (w.out-is, w.n-is, w.o-is) (write-drop g.mode g.steps.0 c.loop.invariant t c.goes.ensures w.if-not-goes.false)
    ]

pub returns : goal.returns
returns c =
    let g = c.args in
    write-end g.mode g.steps.0 c.loop.invariant (omega arith)

pub shape_of-out-in_default : goal.shape_of-out-in_default
shape_of-out-in_default c = c.loop.invariant.long

pub slice_bounds-goes-count : goal.slice_bounds-goes-count
slice_bounds-goes-count c = let t = here c in omega (arith, t.key-start, t.key-end)

pub slice_bounds-goes-start : goal.slice_bounds-goes-start
slice_bounds-goes-start c = let t = here c in omega (arith, t.key-start, t.key-end)

pub slice_bounds-goes-end : goal.slice_bounds-goes-end
slice_bounds-goes-end c = let t = here c in omega (arith, t.rest.within, t.key-end, t.end)

pub slice_bounds-goes-count-in-loop : goal.slice_bounds-goes-count-in-loop
slice_bounds-goes-count-in-loop c = let t = here (goal.at.slice_bounds-goes-count-in-loop c).In-Item in omega (arith, t.key-end, t.value-start, t.end)

pub slice_bounds-goes-start-in-loop : goal.slice_bounds-goes-start-in-loop
slice_bounds-goes-start-in-loop c = let t = here (goal.at.slice_bounds-goes-start-in-loop c).In-Item in omega (arith, t.key-end, t.value-start, t.end)

pub slice_bounds-goes-end-in-loop : goal.slice_bounds-goes-end-in-loop
slice_bounds-goes-end-in-loop c = let t = here (goal.at.slice_bounds-goes-end-in-loop c).In-Item in omega (arith, t.rest.within)

pub shape_of-out : goal.shape_of-out
shape_of-out c = c.loop.invariant.long
