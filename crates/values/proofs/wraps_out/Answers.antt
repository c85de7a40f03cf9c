use borrow.Author.Rules.{rules}
use Prim.Native.Nat.{◌+◌, ◌≤◌}
use native.Mathlib.Omega.{arith}
use lib.ListN.{length}
use Rattle.number.proofs.Cuts.{front-is, front-size, no-back, within-back, back_is}
use Rattle.values.specs.Range.{wraps_out}
use Rattle.values.proofs.wraps_out.Goals as goal
use Rattle.values.proofs.wraps_out.Goals.{Else-leaves}

-- what follows the comma is a part of the text
behind-comma : (c : Else-leaves) → c.find_byte-e.result + 1 ≤ length c.args.text.now
behind-comma c = within-back 44 c.args.text.now c.find_byte-e.result c.find_byte-e.ensures c.if-e-text.false

pub returns-then-e-text : goal.returns-then-e-text
unfolding wraps_out
returns-then-e-text c = rw (no-back 44 c.args.text.now c.find_byte-e.result c.find_byte-e.ensures c.if-e-text.true)

pub slice_bounds-leaves-end : goal.slice_bounds-leaves-end
slice_bounds-leaves-end c = front-size 44 c.args.text.now c.find_byte-e.result c.find_byte-e.ensures

pub returns-then-leaves : goal.returns-then-leaves
unfolding wraps_out
returns-then-leaves c =
    let s = c.args.text.now in
    let e = c.find_byte-e.result in
    let q = c.find_byte-e.ensures in
    rw (back_is 44 s e q c.if-e-text.false, ← front-is 44 s e q, ← c.leaves.ensures, c.if-leaves.true)

pub returns-else-leaves : goal.returns-else-leaves
unfolding wraps_out
returns-else-leaves c =
    let s = c.args.text.now in
    let e = c.find_byte-e.result in
    let q = c.find_byte-e.ensures in
    rw (back_is 44 s e q c.if-e-text.false, ← front-is 44 s e q, ← c.leaves.ensures, c.if-leaves.false) c.leaves-else-leaves.ensures

pub overflow_add-e : goal.overflow_add-e
overflow_add-e c = omega (arith, behind-comma c)

pub slice_bounds-leaves-count : goal.slice_bounds-leaves-count
slice_bounds-leaves-count c = behind-comma c

pub slice_bounds-leaves-start : goal.slice_bounds-leaves-start
slice_bounds-leaves-start c = let h = behind-comma c in search rules
