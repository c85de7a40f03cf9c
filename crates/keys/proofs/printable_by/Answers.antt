use mathlib.Core.Path.{sym, ◌∙◌}
use Prim.Native.Nat.{◌+◌, ◌-◌}
use native.Mathlib.Omega.{arith}
use lib.ListN.{length}
use Rattle.lists.proofs.All.{block-next, block-not, last-not, last-all}
use Rattle.keys.specs.Keys.{printable}
use Rattle.keys.proofs.printable_by.Goals as goal

pub returns-then-not-printable_block : goal.returns-then-not-printable_block
returns-then-not-printable_block g c =
    let s = c.args.s.now in
    sym (last-not printable s g.row.N (length s - g.row.N) (omega arith) (sym c.printable_block.ensures ∙ c.if-not-printable_block.true))

pub returns-then-not-printable_block-2 : goal.returns-then-not-printable_block-2
returns-then-not-printable_block-2 g c =
    let s = c.args.s.now in
    sym (block-not printable s c.loop-at.at c.loop-at.invariant g.row.N (sym c.printable_block-in-loop-at.ensures ∙ c.if-not-printable_block-2.true))

pub loop-at-preserved : goal.loop-at-preserved
loop-at-preserved g c =
    let s = c.args.s.now in
    block-next printable s c.loop-at.at c.loop-at.invariant g.row.N (sym c.printable_block-in-loop-at.ensures ∙ c.if-not-printable_block-2.false)

pub returns-else-not-printable_block : goal.returns-else-not-printable_block
returns-else-not-printable_block g c =
    let s = c.args.s.now in
    sym (c.loop-at.invariant ∙ last-all printable s g.row.N (length s - g.row.N) (omega arith) (sym c.printable_block.ensures ∙ c.if-not-printable_block.false) c.loop-at.at c.loop-at-test.false)

pub returns-else-not-printable_block-2 : goal.returns-else-not-printable_block-2
returns-else-not-printable_block-2 g c =
    let s = c.args.s.now in
    let n = block-next printable s c.loop-at.at c.loop-at.invariant g.row.N (sym c.printable_block-in-loop-at.ensures ∙ c.if-not-printable_block-2.false) in
    sym (n ∙ last-all printable s g.row.N (length s - g.row.N) (omega arith) (sym c.printable_block.ensures ∙ c.if-not-printable_block.false) (c.loop-at.at + g.row.N) (omega arith))
