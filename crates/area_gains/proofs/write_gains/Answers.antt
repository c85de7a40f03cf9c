use mathlib.Core.Path.{◌≡◌, refl}
use mathlib.Core.List.{[]}
use Prim.Native.Nat.{◌+◌, ◌-◌}
use native.Mathlib.Omega.{arith}
use borrow.Author.Rules.{rules}
use lib.ListN.{length, length-map}
use Rattle.items.proofs.Loops.{Turn, turn, never}
use Rattle.area_gains.proofs.Rest.{lent, lent-at}
use Rattle.area_gains.proofs.Passing.{pass-within}
use Rattle.area_gains.proofs.Turns.{write-begin, keep-room, write-keep, set_room, write-set, rest-room, rest-small, write-end}
use Rattle.area_gains.proofs.write_gains.Goals as goal
use Rattle.area_gains.proofs.write_gains.Goals.{Start, In-Item, In-Some, in-Some, in_default-waiting}

five : (c : Start) → length c.args.texts ≡ 5
five c = search rules

pub loop-init : goal.loop-init
loop-init c =
    let n = five (goal.at.loop-init c).Start in
    let z : c.args.count - 0 ≡ c.args.count = omega arith in
    rw z (write-begin c.args.area.now c.args.count (lent c.args.texts) c.to_set-to_write.result c.args.out.now (rw length-map n) c.to_set-to_write.ensures c.requires.0)

pub returns-in_default : goal.returns-in_default
returns-in_default c = absurd (never c.loop.invariant.pass.todo (omega arith) c.step.result c.step.ensures c.in_default.not-Item)

-- the turn's item
here : (c : In-Item) → Turn c.args.area.now c.loop.at (c.args.count - c.loop.counter) (c.args.count - (c.loop.counter + 1)) c.in-Item.key_start c.in-Item.key_end c.in-Item.value_start c.in-Item.value_end
here c = turn c.loop.invariant.pass.todo (c.args.count - (c.loop.counter + 1)) (omega arith) c.in-Item.ensures

pub slice_bounds-waiting-end : goal.slice_bounds-waiting-end
slice_bounds-waiting-end c = let t = here (goal.at.slice_bounds-waiting-end c).In-Item in omega (arith, t.rest.within, t.key-end, t.end)

pub put_changed-o-requires : goal.put_changed-o-requires
put_changed-o-requires c =
    let p = goal.at.put_changed-o-requires c in
    let n = five p.Start in
    let t = here p.In-Item in
    let x = c.loop.invariant in
    let i = c.in-Some.i in
    let h = pass-within x.pass t (omega arith) c.waiting.ensures i c.in-Some.is in
    let e = lent-at c.args.texts (lent c.args.texts) i (record { ref_ptr = (0, 0); now = [] }) refl (omega arith) in
    let r = set_room x t (omega arith) c.waiting.ensures i c.in-Some.is _ e in
    (omega (arith, t.key-end), omega (arith, t.key-end, t.end, t.rest.within), omega (arith, r _ c.requires.2), omega (arith, r _ c.requires.1, x.long))

pub put_part-o-requires : goal.put_part-o-requires
put_part-o-requires c =
    let t = here (goal.at.put_part-o-requires c).In-Item in
    (omega (arith, t.end), t.rest.within, keep-room c.loop.invariant t (omega arith) c.waiting.ensures c.in_default-waiting.is c.requires.1)

pub loop-preserved : goal.loop-preserved
loop-preserved c =
    let p = goal.at.loop-preserved c in
    let n = five p.Start in
    let t = here p.In-Item in
    let x = c.loop.invariant in
    elim c.match-waiting.branch [
      | in-Some w ↦
          let i = w.in-Some.i in
          let h = pass-within x.pass t (omega arith) c.waiting.ensures i w.in-Some.is in
          let e = lent-at c.args.texts (lent c.args.texts) i (record { ref_ptr = (0, 0); now = [] }) refl (omega arith) in
          let q = w.put_changed-o.ensures in
          rw (w.out-is, w.to_write-is, w.o-is)
          (write-set x t (omega arith) c.waiting.ensures i w.in-Some.is (λ i. omega (arith, c.type_inv.area i)) _ e w.put_changed-o.result w.put_changed-o.new.out w.put_changed-o.auto.out (q.0, q.1))
      | in_default-waiting w ↦
          let q = w.put_part-o.ensures in
          rw (w.out-is, w.to_write-is, w.o-is)
          (write-keep x t (omega arith) c.waiting.ensures w.in_default-waiting.is (λ i. omega (arith, c.type_inv.area i)) w.put_part-o.result w.put_part-o.new.out w.put_part-o.auto.out (q.0, q.1))
    ]

pub put_rest-requires : goal.put_rest-requires
put_rest-requires c =
    let r = rest-room c.loop.invariant (omega arith) c.requires.1 in
    (r.0, r.1, rest-small c.loop.invariant (omega arith) c.requires.2)

pub returns : goal.returns
returns c = let e = c.put_rest.ensures in write-end c.loop.invariant (omega arith) _ _ _ e.0 e.1 e.2
