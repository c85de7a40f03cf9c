use native.Mathlib.Omega.{arith}
use Rattle.lists.proofs.Places.{length_part}
use Rattle.lists.proofs.put_part.Goals as goal

pub put-requires : goal.put-requires
put-requires c =
    omega (arith, c.requires, length_part c.args.from c.args.to c.args.src.now c.requires.1)

pub returns : goal.returns
returns c =
    (c.put.ensures.0, c.put.ensures.1, omega (arith, c.put.ensures.0, length_part c.args.from c.args.to c.args.src.now c.requires.1))
