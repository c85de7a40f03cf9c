use Prim.Native.Nat.{◌+◌, ◌-◌, ◌*◌}
use native.Mathlib.Omega.{arith}
use mathlib.Core.Path.{◌≡◌, sym, ◌∙◌}
use lib.ListN.{length}
use Rattle.utf8.proofs.Stretch.{none, block, block_back}
use Rattle.utf8.proofs.front_by_sixteens.Goals as goal

pub loop-k-init : goal.loop-k-init
loop-k-init c = none _ 0 (omega arith)

pub loop-k-preserved : goal.loop-k-preserved
loop-k-preserved c =
    let next : (c.loop-k.k + 1) * 16 ≡ c.loop-k.k * 16 + 16 = omega arith in
    rw next (block 16 c.loop-k.invariant (sym c.plain.ensures ∙ c.if-not-plain.false) (omega arith))

pub returns-then-plain : goal.returns-then-plain
returns-then-plain c =
    let s = c.args.s.now in
    block_back 16 (length s - 16) c.loop-k.invariant (sym c.plain-2.ensures ∙ c.if-plain.true) (omega arith) (omega arith)
