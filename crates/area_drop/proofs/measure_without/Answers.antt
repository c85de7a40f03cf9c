use mathlib.Core.Path.{◌≡◌, refl, sym, ◌∙◌}
use Prim.Native.Nat.{ℕ, ◌+◌, ◌-◌}
use native.Mathlib.Omega.{arith}
use mathlib.Core.Bool.{Bool}
use mathlib.Core.List.{List}
use Rattle.std.specs.Fn.{FnReturnsAt}
use Rattle.std.proofs.lemmas.Fn.{says_at}
use Rattle.lists.specs.Write.{part}
use Rattle.items.proofs.Walk.{Taken, taken, stopped}
use Rattle.area_drop.specs.Drops.{Tests}
use Rattle.area_drop.proofs.Dropping.{small-part, measure-long, measure-stop, measure-drop, measure-keep, measure-end, measure-behind}
use Rattle.area_drop.proofs.measure_without.Goals as goal
use Rattle.area_drop.proofs.measure_without.Goals.{In-Item, After-goes, then-not-goes, else-not-goes}

pub returns-then-area-count : goal.returns-then-area-count
returns-then-area-count g c p h = sym (measure-long p c.args.area.now c.args.count (omega arith))

pub returns-in_default : goal.returns-in_default
returns-in_default g c p h =
    let s = c.args.area.now in
    let l = c.loop in
    let e = stopped s l.at c.step.result c.step.ensures c.in_default.not-Item in
    sym (l.invariant.3 p h ∙ measure-stop p s l.at (c.args.count - l.counter) l.n l.size (omega arith) e)

-- the turn's item
here : (g : _) (c : In-Item g) → Taken c.args.area.now c.loop.at c.in-Item.flags c.in-Item.key_start c.in-Item.key_end c.in-Item.value_start c.in-Item.value_end
here g c = taken c.args.area.now c.loop.at _ _ _ _ _ c.in-Item.ensures

-- whether it goes
tested : (g : _) (c : After-goes g) (p : List ℕ → Bool) → Tests (FnReturnsAt g.F.Fn c.args.goes) p → c.goes.result ≡ p (part c.in-Item.key_start c.in-Item.key_end c.args.area.now)
tested g c p h =
    h _ c.goes.result (small-part c.args.area.now c.in-Item.key_start c.in-Item.key_end (λ i. omega (arith, c.type_inv.area i))) (says_at g.F.Fn c.goes.ensures refl)

pub slice_bounds-goes-end : goal.slice_bounds-goes-end
slice_bounds-goes-end g c = let t = here g (goal.at.slice_bounds-goes-end g c).In-Item in omega (arith, t.within, t.key-end, t.value-end)

pub loop-preserved : goal.loop-preserved
loop-preserved g c =
    let q = goal.at.loop-preserved g c in
    let t = here g q.In-Item in
    let left = c.args.count - c.loop.counter in
    let m = c.args.count - (c.loop.counter + 1) in
    elim c.if-not-goes.branch [
      | then-not-goes w ↦ (
        t.within,
        omega arith,
        omega (arith, t.value-end),
        λ p h. rw (w.n-is, w.size-is) (c.loop.invariant.3 p h ∙ measure-keep p left m c.loop.n c.loop.size t (omega arith) (tested g q.After-goes p h) w.if-not-goes.true),
      )
      | else-not-goes w ↦ (
        t.within,
        omega arith,
        omega (arith, t.value-end),
        λ p h. rw (w.n-is, w.size-is) (c.loop.invariant.3 p h ∙ measure-drop p left m c.loop.n c.loop.size t (omega arith) (tested g q.After-goes p h) w.if-not-goes.false),
      )
    ]

pub returns-then-at-area : goal.returns-then-at-area
returns-then-at-area g c p h =
    let l = c.loop in
    sym (l.invariant.3 p h ∙ measure-end p c.args.area.now l.at l.n l.size l.invariant.0 (c.args.count - l.counter) (omega arith) c.if-at-area.true)

pub returns : goal.returns
returns g c p h =
    let l = c.loop in
    sym (l.invariant.3 p h ∙ measure-behind p c.args.area.now l.at l.n l.size l.invariant.0 (c.args.count - l.counter) (omega arith) c.if-at-area.false)
