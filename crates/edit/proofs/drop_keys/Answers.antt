-- Whichever room is taken, it holds the items.
use Prim.Native.Nat.{ℕ, ◌-◌, ◌≤◌}
use lib.ListN.{length-replicate}
use native.Mathlib.Omega.{arith}
use Rattle.edit.proofs.drop_keys.Goals as goal

pub drop_keys_in-requires : goal.drop_keys_in-requires
drop_keys_in-requires g c =
    let f = c.requires in
    let h : c.args.place.end - c.args.place.start ≤ 4096 = omega arith in
    (f.0, f.1, omega (arith, h, length-replicate {A = ℕ} 4096 0))

pub drop_keys_in-requires-2 : goal.drop_keys_in-requires-2
drop_keys_in-requires-2 g c =
    let f = c.requires in
    (f.0, f.1, omega (arith, f.0.short, length-replicate {A = ℕ} 66048 0))

pub returns-then-place-le-SMALL_ROOM : goal.returns-then-place-le-SMALL_ROOM
returns-then-place-le-SMALL_ROOM g c = c.drop_keys_in.ensures

pub returns : goal.returns
returns g c = c.drop_keys_in-2.ensures
