use Prim.Native.Nat.{◌-◌}
use lib.ListN.{length}
use native.Mathlib.Omega.{arith}
use mathlib.Core.Path.{sym, ◌∙◌}
use Rattle.utf8.specs.Runs.{Stretch}
use Rattle.utf8.proofs.Stretch.{none, block, block_back}
use Rattle.utf8.proofs.front_by_eights.Goals as goal

pub returns-then-s-lt8 : goal.returns-then-s-lt8
returns-then-s-lt8 c = none _ 0 (omega arith)

pub returns-then-plain : goal.returns-then-plain
returns-then-plain c =
    let s = c.args.s.now in
    let first : Stretch s 0 8 = block 8 (none s 0 (omega arith)) (sym c.plain.ensures ∙ c.if-not-plain.false) (omega arith) in
    block_back 8 (length s - 8) first (sym c.plain-2.ensures ∙ c.if-plain.true) (omega arith) (omega arith)

pub returns-else-plain : goal.returns-else-plain
returns-else-plain c =
    block 8 (none c.args.s.now 0 (omega arith)) (sym c.plain.ensures ∙ c.if-not-plain.false) (omega arith)
