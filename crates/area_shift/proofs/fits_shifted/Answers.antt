use Prim.Native.Nat.{◌+◌, ◌-◌, ◌≤◌}
use native.Mathlib.Omega.{arith}
use mathlib.Core.Path.{sym, ◌∙◌}
use borrow.Author.Rules.{rules}
use borrow.Author.Tests.{not-true, not-false}
use Rattle.items.proofs.Loops.{Turn, turn, never}
use Rattle.area_shift.proofs.Shifting.{Sizing, size-begin, size-drop, size-keep, size-over, size_fits, ample}
use Rattle.area_shift.proofs.fits_shifted.Goals as goal
use Rattle.area_shift.proofs.fits_shifted.Goals.{After-item_size-size, In-Item, then-not-goes+else-size-limit, else-not-goes}

pub returns-then-count-limit : goal.returns-then-count-limit
returns-then-count-limit c =
    let g = c.args in
    ample g.mode g.steps.0 g.area.now g.count g.limit c.requires.0 (omega arith) (omega arith)

pub loop-init : goal.loop-init
loop-init c =
    let g = c.args in
    (size-begin g.mode g.steps.0 g.area.now g.count c.requires.0 _ (omega arith), omega arith)

pub returns-in_default : goal.returns-in_default
returns-in_default c =
    absurd (never c.loop.invariant.0.todo (omega arith) c.step.result c.step.ensures c.in_default.not-Item)

-- the turn's item
here : (c : In-Item) → Turn c.args.area.now c.loop.at (c.args.count - c.loop.counter) (c.args.count - (c.loop.counter + 1)) c.in-Item.key_start c.in-Item.stop c.in-Item.value_start c.in-Item.end
here c = turn c.loop.invariant.0.todo _ (omega arith) (sym c.in-Item.is ∙ c.step.ensures)

pub item_size-size-requires : goal.item_size-size-requires
item_size-size-requires c = let t = here (goal.at.item_size-size-requires c).In-Item in (omega (arith, t.key-end), omega (arith, t.key-end, t.end), t.rest.within)

pub overflow_add-size : goal.overflow_add-size
overflow_add-size c =
    omega (arith, c.item_size-size.ensures.1, (here (goal.at.overflow_add-size c).In-Item).rest.within, c.loop.invariant.1, c.requires.1, c.well_formed.0)

-- the item stays and is counted
more : (c : After-item_size-size) → let g = c.args in
    Sizing g.mode g.steps.0 g.area.now g.count c.in-Item.end (c.args.count - (c.loop.counter + 1)) (c.loop.size + c.item_size-size.result)
more c =
    let g = c.args in
    rw (← c.item_size-size.ensures.0) at (size-keep g.mode g.steps.0 c.loop.invariant.0 ((let it : Turn c.args.area.now c.loop.at (c.args.count - c.loop.counter) (c.args.count - (c.loop.counter + 1)) c.in-Item.key_start c.in-Item.stop c.in-Item.value_start c.in-Item.end = turn c.loop.invariant.0.todo _ (omega arith) (sym c.in-Item.is ∙ c.step.ensures) in it)) c.goes.ensures c.if-not-goes.true (λ i. omega (arith, c.shared_slice_known-1.given i)))

pub returns-then-size-limit : goal.returns-then-size-limit
returns-then-size-limit c = size-over _ _ (more (goal.at.returns-then-size-limit c).After-item_size-size) c.if-size-limit.true

pub loop-preserved : goal.loop-preserved
loop-preserved c =
    let g = c.args in
    let t = here (goal.at.loop-preserved c).In-Item in
    elim c.if-not-goes.branch [
      | then-not-goes+else-size-limit w ↦
          rw w.size-is (
            rw (← w.item_size-size.ensures.0) at (size-keep g.mode g.steps.0 c.loop.invariant.0 t c.goes.ensures w.if-not-goes.true (λ i. omega (arith, c.type_inv.area i))),
            omega (arith, w.if-size-limit.false),
          )
      | else-not-goes w ↦ rw w.size-is (size-drop g.mode g.steps.0 c.loop.invariant.0 t c.goes.ensures w.if-not-goes.false, c.loop.invariant.1)
    ]

pub returns : goal.returns
returns c =
    let g = c.args in
    size_fits g.mode g.steps.0 c.loop.invariant.0 (omega arith) c.loop.invariant.1

pub slice_bounds-goes-count : goal.slice_bounds-goes-count
slice_bounds-goes-count c = let t = here c in omega (arith, t.key-start, t.key-end)

pub slice_bounds-goes-start : goal.slice_bounds-goes-start
slice_bounds-goes-start c = let t = here c in omega (arith, t.key-start, t.key-end)

pub slice_bounds-goes-end : goal.slice_bounds-goes-end
slice_bounds-goes-end c = let t = here c in omega (arith, t.rest.within, t.key-end, t.end)

pub slice_bounds-goes-count-in-loop : goal.slice_bounds-goes-count-in-loop
slice_bounds-goes-count-in-loop c = let t = here (goal.at.slice_bounds-goes-count-in-loop c).In-Item in omega (arith, t.key-end, t.value-start, t.end)

pub slice_bounds-goes-start-in-loop : goal.slice_bounds-goes-start-in-loop
slice_bounds-goes-start-in-loop c = let t = here (goal.at.slice_bounds-goes-start-in-loop c).In-Item in omega (arith, t.key-end, t.value-start, t.end)

pub slice_bounds-goes-end-in-loop : goal.slice_bounds-goes-end-in-loop
slice_bounds-goes-end-in-loop c = let t = here (goal.at.slice_bounds-goes-end-in-loop c).In-Item in omega (arith, t.rest.within)
