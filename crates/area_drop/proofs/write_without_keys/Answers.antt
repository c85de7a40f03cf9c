use mathlib.Core.Path.{◌≡◌}
use Prim.Native.Nat.{◌+◌, ◌-◌}
use native.Mathlib.Omega.{arith}
use Rattle.lists.specs.Write.{part}
use Rattle.lists.proofs.Wrote.{next}
use Rattle.items.proofs.Loops.{begin, Turn, turn, never}
use Rattle.area_drop.proofs.Dropping.{keep-begin, keep-drop, keep-room, keep-keep, keep-end}
use Rattle.area_drop.proofs.write_without_keys.Goals as goal
use Rattle.area_drop.proofs.write_without_keys.Goals.{In-Item, then-not-passes, else-not-passes}

pub loop-init : goal.loop-init
loop-init g c =
    let z : c.args.count - 0 ≡ c.args.count = omega arith in
    rw z (begin c.args.area.now c.args.count c.requires.formed, keep-begin (g.T.KeyTest.test c.args.goes.now) c.args.area.now c.args.count c.args.out.now c.requires.formed)

pub returns-in_default : goal.returns-in_default
returns-in_default g c = absurd (never c.loop.invariant.0 (omega arith) c.step.result c.step.ensures c.in_default.not-Item)

-- the turn's item
here : (g : _) (c : In-Item g) → Turn c.args.area.now c.loop.at (c.args.count - c.loop.counter) (c.args.count - (c.loop.counter + 1)) c.in-Item.key_start c.in-Item.key_end c.in-Item.value_start c.in-Item.value_end
here g c = turn c.loop.invariant.0 (c.args.count - (c.loop.counter + 1)) (omega arith) c.in-Item.ensures

pub put_part-o-requires : goal.put_part-o-requires
put_part-o-requires g c =
    let q = goal.at.put_part-o-requires g c in
    let t = here g q.In-Item in
    (omega (arith, t.end), t.rest.within, keep-room (g.T.KeyTest.test c.args.goes.now) c.loop.invariant.1 t c.passes.ensures c.if-not-passes.true c.requires.room)

pub loop-preserved : goal.loop-preserved
loop-preserved g c =
    let q = goal.at.loop-preserved g c in
    let t = here g q.In-Item in
    elim c.if-not-passes.branch [
      | then-not-passes w ↦
          let e = w.put_part-o.ensures in (
            t.rest,
            let k = c.loop.invariant.1 in
                rw (w.out-is, w.o-is) (keep-keep (g.T.KeyTest.test c.args.goes.now) k t c.passes.ensures w.if-not-passes.true (λ i. omega (arith, c.type_inv.area i)) w.put_part-o.result w.put_part-o.new.out w.put_part-o.auto.out (next k.wrote (part c.loop.at c.in-Item.value_end c.args.area.now) (e.0, e.1))),
          )
      | else-not-passes w ↦
          (t.rest, rw (w.out-is, w.o-is) (keep-drop (g.T.KeyTest.test c.args.goes.now) c.loop.invariant.1 t c.passes.ensures w.if-not-passes.false))
    ]

pub returns : goal.returns
returns g c = keep-end (g.T.KeyTest.test c.args.goes.now) c.loop.invariant.1 (omega arith)

pub slice_bounds-passes-end : goal.slice_bounds-passes-end
slice_bounds-passes-end g c = let t = here g (goal.at.slice_bounds-passes-end g c).In-Item in omega (arith, t.rest.within, t.key-end, t.end)
