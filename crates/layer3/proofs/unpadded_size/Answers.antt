-- The table is what the definition says.
use Rattle.std.proofs.Common.{arith, ◌+◌, ◌/◌}
use Rattle.layer3.proofs.unpadded_size.Goals as goal

pub returns-then-mpeg1 : goal.returns-then-mpeg1
returns-then-mpeg1 c =
    let a = c.args in
    rw (c.if-mpeg1.true, c.from-place.ensures) (c.requires.in-first a.c (omega arith), c.requires.small (64 + a.c / 4) (omega arith))

pub returns-else-mpeg1 : goal.returns-else-mpeg1
returns-else-mpeg1 c =
    let a = c.args in
    rw (c.if-mpeg1.false, c.from-place.ensures) (c.requires.in-second a.c (omega arith), c.requires.small (a.c / 4) (omega arith))
