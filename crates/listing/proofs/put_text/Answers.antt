use native.Mathlib.Omega.{arith}
use Rattle.listing.proofs.Printing.{print-begin, print-more, print-end}
use Rattle.listing.proofs.put_text.Goals as goal

pub loop-b-init : goal.loop-b-init
loop-b-init c = print-begin c.args.key c.args.s.now c.args.out.now c.args.at c.requires

pub put_byte-end-requires : goal.put_byte-end-requires
put_byte-end-requires c = omega (arith, c.loop-b.invariant.room, c.loop-b.invariant.long)

pub loop-b-preserved : goal.loop-b-preserved
loop-b-preserved c =
    print-more c.loop-b.invariant (omega arith) _ _ c.put_byte-end.auto.out c.put_byte-end.ensures

pub shape_of-out : goal.shape_of-out
shape_of-out c = c.loop-b.invariant.long

pub returns : goal.returns
returns c = print-end c.loop-b.invariant (omega arith)
