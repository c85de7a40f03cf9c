use mathlib.Core.Path.{sym, ◌∙◌}
use Prim.Native.Nat.{◌+◌, ◌-◌}
use native.Mathlib.Omega.{arith}
use Rattle.items.proofs.Loops.{Turn, turn, never}
use Rattle.listing.proofs.Lining.{line-begin, line-room, line-more, line-end}
use Rattle.listing.proofs.put_lines.Goals as goal
use Rattle.listing.proofs.put_lines.Goals.{In-Item}

pub loop-init : goal.loop-init
loop-init c = line-begin c.args.area.now c.args.count c.args.out.now c.args.at c.requires.0 c.requires.1 _ (omega arith)

pub returns-in_default : goal.returns-in_default
returns-in_default c = absurd (never c.loop.invariant.todo (omega arith) c.item_at.result c.item_at.ensures c.in_default.not-Item)

-- the turn's item
here : (c : In-Item) → Turn c.args.area.now c.loop.from (c.args.count - c.loop.counter) (c.args.count - (c.loop.counter + 1)) c.in-Item.key_start c.in-Item.key_end c.in-Item.value_start c.in-Item.value_end
here c = turn c.loop.invariant.todo _ (omega arith) (sym c.in-Item.is ∙ c.item_at.ensures)

pub put_line-end-requires : goal.put_line-end-requires
put_line-end-requires c = line-room c.loop.invariant (here (goal.at.put_line-end-requires c).In-Item)

pub loop-preserved : goal.loop-preserved
loop-preserved c = let p = c.put_line-end in line-more c.loop.invariant (here (goal.at.loop-preserved c).In-Item) _ _ p.auto.out p.ensures

pub shape_of-out-in_default : goal.shape_of-out-in_default
shape_of-out-in_default c = c.loop.invariant.long

pub slice_bounds-put_line-count : goal.slice_bounds-put_line-count
slice_bounds-put_line-count c = let t = here (goal.at.slice_bounds-put_line-count c).In-Item in omega (arith, t.key-start, t.key-end)

pub slice_bounds-put_line-start : goal.slice_bounds-put_line-start
slice_bounds-put_line-start c = let t = here (goal.at.slice_bounds-put_line-start c).In-Item in omega (arith, t.key-start, t.key-end)

pub slice_bounds-put_line-end : goal.slice_bounds-put_line-end
slice_bounds-put_line-end c = let t = here (goal.at.slice_bounds-put_line-end c).In-Item in omega (arith, t.rest.within, t.key-end, t.end)

pub slice_bounds-put_line-count-in-loop : goal.slice_bounds-put_line-count-in-loop
slice_bounds-put_line-count-in-loop c = let t = here (goal.at.slice_bounds-put_line-count-in-loop c).In-Item in omega (arith, t.value-start, t.key-end, t.end)

pub slice_bounds-put_line-start-in-loop : goal.slice_bounds-put_line-start-in-loop
slice_bounds-put_line-start-in-loop c = let t = here (goal.at.slice_bounds-put_line-start-in-loop c).In-Item in omega (arith, t.value-start, t.key-end, t.end)

pub slice_bounds-put_line-end-in-loop : goal.slice_bounds-put_line-end-in-loop
slice_bounds-put_line-end-in-loop c = let t = here (goal.at.slice_bounds-put_line-end-in-loop c).In-Item in omega (arith, t.rest.within)

pub shape_of-out : goal.shape_of-out
shape_of-out c = c.loop.invariant.long

pub returns : goal.returns
returns c = line-end c.loop.invariant (omega arith)
