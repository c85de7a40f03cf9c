use native.Mathlib.Omega.{arith}
use borrow.Author.Rules.{rules}
use Rattle.keys.proofs.Keys.{key-length}
use Rattle.lengths.proofs.item_length.Goals as goal

pub measure_set-m-requires : goal.measure_set-m-requires
measure_set-m-requires c =
    (c.in_ok-p.ensures, omega (arith, key-length c.args.key.now c.requires.2), omega (arith, c.requires.3))

pub returns : goal.returns
returns c =
    let m = c.measure_set-m.ensures in
    rw (← c.requires.0.items, ← m.0, ← m.1) c.last_length.ensures
