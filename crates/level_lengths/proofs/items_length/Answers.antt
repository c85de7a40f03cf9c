-- Whichever room is taken, it holds the items.
use Rattle.std.proofs.Common.{◌+◌, ◌-◌, ◌*◌, ◌≤◌, arith}
use Rattle.level_lengths.proofs.items_length.Goals as goal

pub items_length_in-requires-2 : goal.items_length_in-requires-2
items_length_in-requires-2 c =
    let h : c.args.place.end - c.args.place.start + 32 * c.args.place.count ≤ 40960 = omega (arith, c.requires.0.short, c.requires.0.few) in
    (c.requires.0, c.requires.1, omega (arith, h), omega arith)

pub overflow_add-place : goal.overflow_add-place
overflow_add-place c = omega (arith, c.requires.0.within)
