-- What is written is as many items and bytes as are measured.
use mathlib.Core.Path.{◌≡◌}
use Prim.Native.Nat.{ℕ, ◌-◌}
use native.Mathlib.Omega.{arith}
use lib.ListN.{length, length-replicate}
use Rattle.lists.specs.Write.{part}
use Rattle.lists.proofs.Places.{length_part}
use Rattle.level_lengths.proofs.items_length_in.Goals as goal
use Rattle.level_lengths.proofs.items_length_in.Goals.{Start}

size : (g : _) (b : Start g) → length (part b.args.place.start b.args.place.end b.args.file.now) ≡ b.args.place.end - b.args.place.start
size g b = length_part b.args.place.start b.args.place.end b.args.file.now b.requires.0.within

pub write_items-m-requires : goal.write_items-m-requires
write_items-m-requires g c =
    let p = c.requires.0 in
    let s = size g (goal.at.write_items-m-requires g c).Start in
    let n = length-replicate {A = ℕ} g.row.N 0 in
    (p.good, p.few, omega (arith, s, p.short), omega (arith, s, n, c.requires.2), omega (arith, s, n, c.requires.2))

pub whole_as_slice-write_items : goal.whole_as_slice-write_items
whole_as_slice-write_items g c = omega (arith, c.requires.3)

pub whole_as_slice-write_items-2 : goal.whole_as_slice-write_items-2
whole_as_slice-write_items-2 g c = omega (arith, c.requires.3)

pub returns : goal.returns
returns g c =
    let m = c.write_items-m.ensures.0 in
    rw (← c.requires.0.items, ← m.0, ← m.1) c.last_length.ensures
