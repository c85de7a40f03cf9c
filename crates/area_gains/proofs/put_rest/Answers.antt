use mathlib.Core.Path.{◌≡◌, refl}
use mathlib.Core.List.{[]}
use native.Mathlib.Omega.{arith}
use borrow.Author.Rules.{rules}
use lib.ListN.{length, length-map}
use Rattle.area_gains.proofs.Rest.{lent, lent-at, put-begin, put-end, put-keep, put-room, put-next}
use Rattle.area_gains.proofs.put_rest.Goals as goal
use Rattle.area_gains.proofs.put_rest.Goals.{Start, then-todo-k, else-todo-k}

five : (c : Start) → (length c.args.todo ≡ 5) × (length c.args.texts ≡ 5) × (length (lent c.args.texts) ≡ 5)
five c = let n : length c.args.texts ≡ 5 = search rules in (search rules, n, rw length-map n)

pub loop-k-init : goal.loop-k-init
loop-k-init c = put-begin c.args.todo (lent c.args.texts) c.args.size c.args.out.now c.requires.0 (omega (arith, c.requires))

pub put_item-requires : goal.put_item-requires
put_item-requires c =
    let (n, t, v) = five (goal.at.put_item-requires c).Start in
    let e = lent-at c.args.texts (lent c.args.texts) c.loop-k.k (record { ref_ptr = (0, 0); now = [] }) refl (omega arith) in
    let r = put-room c.loop-k.invariant n v c.loop-k-test.true c.if-todo-k.true c.requires.1 c.requires.2 in
    rw (c.key_at.ensures, e) r

pub loop-k-preserved : goal.loop-k-preserved
loop-k-preserved c =
    let (n, t, v) = five (goal.at.loop-k-preserved c).Start in
    let x = c.loop-k.invariant in
    let i = c.loop-k.k in
    elim c.if-todo-k.branch [
      | then-todo-k w ↦
          let e = lent-at c.args.texts (lent c.args.texts) i (record { ref_ptr = (0, 0); now = [] }) refl (omega arith) in
          let q = rw (w.key_at.ensures, e) at w.put_item.ensures in
          rw (w.out-is, w.size-is) (put-next x n v c.loop-k-test.true w.if-todo-k.true w.put_item.result w.put_item.new.out q w.put_item.auto.out)
      | else-todo-k w ↦ rw (w.out-is, w.size-is) (put-keep x n v c.loop-k-test.true w.if-todo-k.false)
    ]

pub returns : goal.returns
returns c =
    let (n, t, v) = five (goal.at.returns c).Start in
    put-end c.loop-k.invariant n v (omega arith)
