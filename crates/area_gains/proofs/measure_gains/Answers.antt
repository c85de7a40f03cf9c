use mathlib.Core.Path.{◌≡◌, refl, ap, ◌∙◌}
use mathlib.Core.List.{[]}
use Prim.Native.Nat.{◌+◌, ◌-◌}
use native.Mathlib.Omega.{arith}
use borrow.Author.Rules.{rules}
use lib.ListN.{length, get_or, length-map}
use Rattle.area_gains.specs.Gains.{capped}
use Rattle.items.proofs.Loops.{Turn, turn, never}
use Rattle.area_gains.proofs.Rest.{lent, lent-at, capped-most, more as bigger}
use Rattle.area_gains.proofs.Passing.{pass-within}
use Rattle.area_gains.proofs.Turns.{measure-begin, measure-keep, measure-set, measure-end}
use Rattle.area_gains.proofs.measure_gains.Goals as goal
use Rattle.area_gains.proofs.measure_gains.Goals.{Start, In-Item, In-Some, in-Some, in_default-waiting}

five : (c : Start) → length c.args.texts ≡ 5
five c = search rules

pub loop-init : goal.loop-init
loop-init c =
    let n = five (goal.at.loop-init c).Start in
    let z : c.args.count - 0 ≡ c.args.count = omega arith in
    rw z (measure-begin c.args.area.now c.args.count (lent c.args.texts) c.to_set-todo.result (rw length-map n) c.to_set-todo.ensures c.requires)

pub returns-in_default : goal.returns-in_default
returns-in_default c = absurd (never c.loop.invariant.pass.todo (omega arith) c.step.result c.step.ensures c.in_default.not-Item)

-- the turn's item
here : (c : In-Item) → Turn c.args.area.now c.loop.at (c.args.count - c.loop.counter) (c.args.count - (c.loop.counter + 1)) c.in-Item.key_start c.in-Item.key_end c.in-Item.value_start c.in-Item.value_end
here c = turn c.loop.invariant.pass.todo (c.args.count - (c.loop.counter + 1)) (omega arith) c.in-Item.ensures

pub slice_bounds-waiting-end : goal.slice_bounds-waiting-end
slice_bounds-waiting-end c = let t = here (goal.at.slice_bounds-waiting-end c).In-Item in omega (arith, t.rest.within, t.key-end, t.end)

pub with_rest-requires : goal.with_rest-requires
with_rest-requires c = rw c.loop.invariant.sized (capped-most _)

pub loop-preserved : goal.loop-preserved
loop-preserved c =
    let p = goal.at.loop-preserved c in
    let n = five p.Start in
    let t = here p.In-Item in
    let x = c.loop.invariant in
    elim c.match-waiting.branch [
      | in-Some w ↦
          let i = w.in-Some.i in
          let h = pass-within x.pass t (omega arith) c.waiting.ensures i w.in-Some.is in
          let e = lent-at c.args.texts (lent c.args.texts) i (record { ref_ptr = (0, 0); now = [] }) refl (omega arith) in
          let v = (get_or c.args.texts i (record { ref_ptr = (0, 0); now = [] })).now in
          let m : c.args.count - c.loop.counter ≡ c.args.count - (c.loop.counter + 1) + 1 = omega arith in
          let n : c.loop.size + (c.in-Item.value_start - c.loop.at) + length v ≡ c.loop.size + (c.in-Item.value_start - c.loop.at + length v) = omega arith in
          let f = bigger (c.loop.size + (c.in-Item.value_start - c.loop.at)) (length v) w.grown-size.ensures w.grown.ensures ∙ ap capped n in
          rw (w.todo-is, w.size-is) (measure-set x t m c.waiting.ensures i w.in-Some.is v e w.grown-size.result f)
      | in_default-waiting w ↦
          rw (w.todo-is, w.size-is) (measure-keep x t (omega arith) c.waiting.ensures w.in_default-waiting.is w.grown-size-in_default-waiting.result w.grown-size-in_default-waiting.ensures)
    ]

pub returns : goal.returns
returns c = measure-end c.loop.invariant (omega arith) c.with_rest.result c.with_rest.ensures
