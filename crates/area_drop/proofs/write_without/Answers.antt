use mathlib.Core.Path.{◌≡◌, refl}
use Prim.Native.Nat.{ℕ, ◌+◌, ◌-◌}
use native.Mathlib.Omega.{arith}
use mathlib.Core.Bool.{Bool}
use mathlib.Core.List.{List}
use Rattle.std.specs.Fn.{FnReturnsAt}
use Rattle.std.proofs.lemmas.Fn.{says_at}
use Rattle.lists.specs.Write.{part}
use Rattle.lists.proofs.Wrote.{next}
use Rattle.items.proofs.Loops.{begin, Turn, turn, never}
use Rattle.area_drop.specs.Drops.{Tests}
use Rattle.area_drop.proofs.Dropping.{small-part, keep-begin, keep-drop, keep-room, keep-keep, keep-end}
use Rattle.area_drop.proofs.write_without.Goals as goal
use Rattle.area_drop.proofs.write_without.Goals.{In-Item, After-goes, then-not-goes, else-not-goes}

pub loop-init : goal.loop-init
loop-init g c =
    let z : c.args.count - 0 ≡ c.args.count = omega arith in
    rw z (begin c.args.area.now c.args.count c.requires.formed, λ p h. keep-begin p c.args.area.now c.args.count c.args.out.now c.requires.formed)

pub returns-in_default : goal.returns-in_default
returns-in_default g c = absurd (never c.loop.invariant.0 (omega arith) c.step.result c.step.ensures c.in_default.not-Item)

-- the turn's item
here : (g : _) (c : In-Item g) → Turn c.args.area.now c.loop.at (c.args.count - c.loop.counter) (c.args.count - (c.loop.counter + 1)) c.in-Item.key_start c.in-Item.key_end c.in-Item.value_start c.in-Item.value_end
here g c = turn c.loop.invariant.0 (c.args.count - (c.loop.counter + 1)) (omega arith) c.in-Item.ensures

-- whether it goes
tested : (g : _) (c : After-goes g) (p : List ℕ → Bool) → Tests (FnReturnsAt g.F.Fn c.args.goes) p → c.goes.result ≡ p (part c.in-Item.key_start c.in-Item.key_end c.args.area.now)
tested g c p h =
    h _ c.goes.result (small-part c.args.area.now c.in-Item.key_start c.in-Item.key_end (λ i. omega (arith, c.type_inv.area i))) (says_at g.F.Fn c.goes.ensures refl)

pub put_part-to-requires : goal.put_part-to-requires
put_part-to-requires g c =
    let q = goal.at.put_part-to-requires g c in
    let t = here g q.In-Item in
    let (p, h, r) = c.requires.room in
    (omega (arith, t.end), t.rest.within, keep-room p (c.loop.invariant.1 p h) t (tested g q.After-goes p h) c.if-not-goes.true r)

pub loop-preserved : goal.loop-preserved
loop-preserved g c =
    let q = goal.at.loop-preserved g c in
    let t = here g q.In-Item in
    elim c.if-not-goes.branch [
      | then-not-goes w ↦
          let e = w.put_part-to.ensures in (
            t.rest,
            λ p h. let k = c.loop.invariant.1 p h in
                rw (w.out-is, w.to-is) (keep-keep p k t (tested g q.After-goes p h) w.if-not-goes.true (λ i. omega (arith, c.type_inv.area i)) w.put_part-to.result w.put_part-to.new.out w.put_part-to.auto.out (next k.wrote (part c.loop.at c.in-Item.value_end c.args.area.now) (e.0, e.1))),
          )
      | else-not-goes w ↦
          (t.rest, λ p h. rw (w.out-is, w.to-is) (keep-drop p (c.loop.invariant.1 p h) t (tested g q.After-goes p h) w.if-not-goes.false))
    ]

pub returns : goal.returns
returns g c p h = keep-end p (c.loop.invariant.1 p h) (omega arith)

pub slice_bounds-goes-end : goal.slice_bounds-goes-end
slice_bounds-goes-end g c = let t = here g (goal.at.slice_bounds-goes-end g c).In-Item in omega (arith, t.rest.within, t.key-end, t.end)
