use mathlib.Core.Path.{refl, ◌∙◌}
use Prim.Native.Nat.{◌-◌}
use native.Mathlib.Omega.{arith}
use Rattle.items.proofs.Walk.{Taken, taken, stopped}
use Rattle.items.proofs.Located.{locate-stop, locate-miss, locate-hit, locate-none, locate-behind, count-stop, count-miss, count-hit, count-end}
use Rattle.items.proofs.first_match.Goals as goal
use Rattle.items.proofs.first_match.Goals.{In-Item}

pub returns-in_default : goal.returns-in_default
returns-in_default c =
    let g = c.args in
    let e = stopped g.area.now c.loop-i.start c.step.result c.step.ensures c.in_default.not-Item in (
      omega arith,
      c.loop-i.invariant.1 ∙ locate-stop g.area.now g.key.now c.loop-i.start (g.count - c.loop-i.i) (omega arith) e,
      c.loop-i.invariant.2 ∙ count-stop g.area.now g.key.now c.loop-i.start (g.count - c.loop-i.i) (omega arith) e,
    )

-- the turn's item
here : (c : In-Item) → Taken c.args.area.now c.loop-i.start c.in-Item.flags c.in-Item.key_start c.in-Item.key_end c.in-Item.value_start c.in-Item.end
here c = taken c.args.area.now c.loop-i.start _ _ _ _ _ c.in-Item.ensures

pub returns-then-same_key : goal.returns-then-same_key
returns-then-same_key c =
    let key = c.args.key.now in
    let same = c.same_key.ensures in
    let t = here (goal.at.returns-then-same_key c).In-Item in (
      t.within,
      c.loop-i.invariant.1 ∙ locate-hit _ _ t (omega arith) key same c.if-same_key.true _ refl,
      c.loop-i.invariant.2 ∙ count-hit _ _ t (omega arith) key same c.if-same_key.true,
    )

pub loop-i-preserved : goal.loop-i-preserved
loop-i-preserved c =
    let key = c.args.key.now in
    let same = c.same_key.ensures in
    let t = here (goal.at.loop-i-preserved c).In-Item in (
      t.within,
      c.loop-i.invariant.1 ∙ locate-miss _ _ t (omega arith) key same c.if-same_key.false,
      c.loop-i.invariant.2 ∙ count-miss _ _ t (omega arith) key same c.if-same_key.false,
    )

pub returns-then-start-area : goal.returns-then-start-area
returns-then-start-area c =
    let g = c.args in (
      omega arith,
      c.loop-i.invariant.1 ∙ locate-none g.area.now g.key.now c.loop-i.start c.loop-i.invariant.0 (g.count - c.loop-i.i) (omega arith) c.if-start-area.true,
      c.loop-i.invariant.2 ∙ count-end g.area.now g.key.now c.loop-i.start (g.count - c.loop-i.i) (omega arith),
    )

pub returns-else-start-area : goal.returns-else-start-area
returns-else-start-area c =
    let g = c.args in (
      omega arith,
      c.loop-i.invariant.1 ∙ locate-behind g.area.now g.key.now c.loop-i.start c.loop-i.invariant.0 (g.count - c.loop-i.i) (omega arith) c.if-start-area.false,
      c.loop-i.invariant.2 ∙ count-end g.area.now g.key.now c.loop-i.start (g.count - c.loop-i.i) (omega arith),
    )

pub slice_bounds-same_key-end : goal.slice_bounds-same_key-end
slice_bounds-same_key-end c = let t = here c in omega (arith, t.within, t.key-end, t.value-end)
