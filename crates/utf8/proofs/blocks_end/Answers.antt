use Prim.Native.Nat.{◌+◌, ◌*◌}
use native.Mathlib.Nat.{add-zero}
use native.Mathlib.Omega.{arith}
use mathlib.Core.Path.{◌≡◌, sym, ◌∙◌}
use Rattle.utf8.proofs.Stretch.{none, block}
use Rattle.utf8.proofs.blocks_end.Goals as goal

pub loop-k-init : goal.loop-k-init
loop-k-init c = rw add-zero (none _ _ c.requires)

pub loop-k-preserved : goal.loop-k-preserved
loop-k-preserved c =
    let next : c.args.from + (c.loop-k.k + 1) * 64 ≡ c.args.from + c.loop-k.k * 64 + 64 = omega arith in
    rw next (block 64 c.loop-k.invariant (sym c.plain.ensures ∙ c.if-not-plain.false) (omega arith))
