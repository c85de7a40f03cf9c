use mathlib.Core.Path.{◌≡◌, refl, ap, ◌∙◌}
use mathlib.Core.List.{[]}
use native.Mathlib.Omega.{arith}
use borrow.Author.Rules.{rules}
use lib.ListN.{length, length-map}
use Prim.Native.Nat.{◌+◌}
use Rattle.area_gains.specs.Gains.{capped}
use Rattle.area_gains.proofs.Rest.{lent, lent-at, more, rest-keep, rest-add, rest-end}
use Rattle.area_gains.proofs.with_rest.Goals as goal
use Rattle.area_gains.proofs.with_rest.Goals.{Start, then-todo-i, else-todo-i}

five : (c : Start) → (length c.args.todo ≡ 5) × (length c.args.texts ≡ 5) × (length (lent c.args.texts) ≡ 5)
five c = let n : length c.args.texts ≡ 5 = search rules in (search rules, n, rw length-map n)

pub loop-i-init : goal.loop-i-init
loop-i-init c = record { most = c.requires; same = refl }

pub loop-i-preserved : goal.loop-i-preserved
loop-i-preserved c =
    let (n, t, v) = five (goal.at.loop-i-preserved c).Start in
    let vs = lent c.args.texts in
    let i = c.loop-i.i in
    let x = c.loop-i.invariant in
    elim c.if-todo-i.branch [
      | then-todo-i w ↦
          let e = lent-at c.args.texts vs i (record { ref_ptr = (0, 0); now = [] }) refl (omega arith) in
          let f = more (c.loop-i.size + (9 + length w.key_at.result.now)) _ w.grown-size.ensures w.grown.ensures ∙ ap capped (omega arith) in
          rw w.size-is (rest-add c.args.todo vs c.args.size n v x c.loop-i-test.true w.if-todo-i.true _ _ _ (ap length w.key_at.ensures) (ap length e) f)
      | else-todo-i w ↦ rw w.size-is (rest-keep c.args.todo vs c.args.size n v x c.loop-i-test.true w.if-todo-i.false)
    ]

pub returns : goal.returns
returns c =
    let (n, t, v) = five (goal.at.returns c).Start in
    rest-end c.args.todo (lent c.args.texts) c.args.size n v c.loop-i.invariant (omega arith)
