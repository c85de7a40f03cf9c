use mathlib.Core.Path.{◌≡◌, sym, ap, ◌∙◌}
use Prim.Native.Nat.{◌-◌}
use lib.ListN.{drop}
use native.Mathlib.Omega.{arith}
use Rattle.lists.specs.Choice.{is_some}
use Rattle.items.proofs.Area.{parse-stop, parse-end}
use Rattle.items.proofs.Walk.{taken, stopped, fewer-some}
use Rattle.items.proofs.well_formed_from.Goals as goal

pub returns-in_default : goal.returns-in_default
returns-in_default c =
    let s = c.args.area.now in
    let e = stopped s c.loop.at c.step.result c.step.ensures c.in_default.not-Item in
    sym (c.loop.invariant.1 ∙ ap is_some (parse-stop (c.args.count - c.loop.counter) (drop c.loop.at s) (omega arith) e))

pub loop-preserved : goal.loop-preserved
loop-preserved c =
    let t = taken c.args.area.now c.loop.at _ _ _ _ _ c.in-Item.ensures in
    (t.within, c.loop.invariant.1 ∙ fewer-some _ _ t (omega arith))

pub returns : goal.returns
returns c =
    let s = c.args.area.now in
    let z : c.args.count - c.loop.counter ≡ 0 = omega arith in
    sym (c.loop.invariant.1 ∙ rw z (parse-end s c.loop.at (omega arith)))
