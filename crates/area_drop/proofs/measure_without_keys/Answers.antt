use mathlib.Core.Path.{sym, ◌∙◌}
use Prim.Native.Nat.{◌+◌, ◌-◌}
use native.Mathlib.Omega.{arith}
use Rattle.items.proofs.Walk.{Taken, taken, stopped}
use Rattle.area_drop.proofs.Dropping.{measure-long, measure-stop, measure-drop, measure-keep, measure-end, measure-behind}
use Rattle.area_drop.proofs.measure_without_keys.Goals as goal
use Rattle.area_drop.proofs.measure_without_keys.Goals.{In-Item, then-not-passes, else-not-passes}

pub returns-then-count-area : goal.returns-then-count-area
returns-then-count-area g c = sym (measure-long (g.T.KeyTest.test c.args.goes.now) c.args.area.now c.args.count (omega arith))

pub returns-in_default : goal.returns-in_default
returns-in_default g c =
    let s = c.args.area.now in
    let l = c.loop in
    let e = stopped s l.at c.step.result c.step.ensures c.in_default.not-Item in
    sym (l.invariant.3 ∙ measure-stop (g.T.KeyTest.test c.args.goes.now) s l.at (c.args.count - l.counter) l.n l.size (omega arith) e)

-- the turn's item
here : (g : _) (c : In-Item g) → Taken c.args.area.now c.loop.at c.in-Item.flags c.in-Item.key_start c.in-Item.key_end c.in-Item.value_start c.in-Item.value_end
here g c = taken c.args.area.now c.loop.at _ _ _ _ _ c.in-Item.ensures

pub slice_bounds-passes-end : goal.slice_bounds-passes-end
slice_bounds-passes-end g c = let t = here g (goal.at.slice_bounds-passes-end g c).In-Item in omega (arith, t.within, t.key-end, t.value-end)

pub loop-preserved : goal.loop-preserved
loop-preserved g c =
    let q = goal.at.loop-preserved g c in
    let t = here g q.In-Item in
    let left = c.args.count - c.loop.counter in
    let m = c.args.count - (c.loop.counter + 1) in
    elim c.if-not-passes.branch [
      | then-not-passes w ↦ (
        t.within,
        omega arith,
        omega (arith, t.value-end),
        rw (w.n-is, w.size-is) (c.loop.invariant.3 ∙ measure-keep (g.T.KeyTest.test c.args.goes.now) left m c.loop.n c.loop.size t (omega arith) c.passes.ensures w.if-not-passes.true),
      )
      | else-not-passes w ↦ (
        t.within,
        omega arith,
        omega (arith, t.value-end),
        rw (w.n-is, w.size-is) (c.loop.invariant.3 ∙ measure-drop (g.T.KeyTest.test c.args.goes.now) left m c.loop.n c.loop.size t (omega arith) c.passes.ensures w.if-not-passes.false),
      )
    ]

pub returns-then-at-area : goal.returns-then-at-area
returns-then-at-area g c =
    let l = c.loop in
    sym (l.invariant.3 ∙ measure-end (g.T.KeyTest.test c.args.goes.now) c.args.area.now l.at l.n l.size l.invariant.0 (c.args.count - l.counter) (omega arith) c.if-at-area.true)

pub returns-else-at-area : goal.returns-else-at-area
returns-else-at-area g c =
    let l = c.loop in
    sym (l.invariant.3 ∙ measure-behind (g.T.KeyTest.test c.args.goes.now) c.args.area.now l.at l.n l.size l.invariant.0 (c.args.count - l.counter) (omega arith) c.if-at-area.false)
