-- Whichever room is taken, it holds the items.
use Prim.Native.Nat.{ℕ, ◌+◌, ◌-◌, ◌≤◌}
use native.Mathlib.Omega.{arith}
use lib.ListN.{length, length-replicate}
use Rattle.keys.proofs.Keys.{key-length}
use Rattle.edit.proofs.set_item.Goals as goal

pub set_item_in-requires : goal.set_item_in-requires
set_item_in-requires c =
    let h : c.args.place.end - c.args.place.start + 9 + length c.args.key.now + length c.args.value.now ≤ 4096 = omega arith in
    (c.requires.0, c.requires.1, c.requires.2, c.requires.3, omega (arith, h, length-replicate {A = ℕ} 4096 0))

pub set_item_in-requires-2 : goal.set_item_in-requires-2
set_item_in-requires-2 c =
    (c.requires.0, c.requires.1, c.requires.2, c.requires.3, omega (arith, c.requires.0.short, key-length c.args.key.now c.requires.2, c.requires.3, length-replicate {A = ℕ} 66048 0))

pub returns-then-place-key-le-SMALL_ROOM : goal.returns-then-place-key-le-SMALL_ROOM
returns-then-place-key-le-SMALL_ROOM c = c.set_item_in.ensures

pub returns : goal.returns
returns c = c.set_item_in-2.ensures
