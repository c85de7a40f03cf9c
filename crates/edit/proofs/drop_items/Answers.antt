-- Whichever room is taken, it holds the items.
use Prim.Native.Nat.{ℕ, ◌-◌, ◌≤◌}
use lib.ListN.{length-replicate}
use native.Mathlib.Omega.{arith}
use Rattle.edit.proofs.drop_items.Goals as goal

pub drop_items_in-requires-clause-fit : goal.drop_items_in-requires-clause-fit
drop_items_in-requires-clause-fit g c =
    let f = c.requires.fit in
    let h : c.args.place.end - c.args.place.start ≤ 4096 = omega arith in
    (f.0, f.1, omega (arith, h, length-replicate {A = ℕ} 4096 0))

pub drop_items_in-requires-2-clause-fit : goal.drop_items_in-requires-2-clause-fit
drop_items_in-requires-2-clause-fit g c =
    let f = c.requires.fit in
    (f.0, f.1, omega (arith, f.0.short, length-replicate {A = ℕ} 66048 0))

pub returns-then-place-le-SMALL_ROOM : goal.returns-then-place-le-SMALL_ROOM
returns-then-place-le-SMALL_ROOM g c p h = c.drop_items_in.ensures p h

pub returns : goal.returns
returns g c p h = c.drop_items_in-2.ensures p h
