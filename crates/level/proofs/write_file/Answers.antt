-- Whichever room is taken, it holds the items.
use Prim.Native.Nat.{ℕ, ◌+◌, ◌-◌, ◌*◌, ◌≤◌}
use native.Mathlib.Omega.{arith}
use lib.ListN.{length-replicate}
use Rattle.replies.specs.Limits.{count_limit, area_limit}
use Rattle.level.proofs.write_file.Goals as goal

pub write_file_in-requires : goal.write_file_in-requires
write_file_in-requires c =
    let h : c.args.place.end - c.args.place.start + 32 * c.args.place.count ≤ 4020 = omega arith in
    (c.requires.0, c.requires.1, omega (arith, h, length-replicate {A = ℕ} 4096 0), omega (arith, h, length-replicate {A = ℕ} 4096 0))

pub write_file_in-requires-2 : goal.write_file_in-requires-2
write_file_in-requires-2 c =
    let h : c.args.place.end - c.args.place.start + 32 * c.args.place.count ≤ area_limit + 32 * count_limit = omega (arith, c.requires.0.short, c.requires.0.few) in
    (c.requires.0, c.requires.1, omega (arith, h, length-replicate {A = ℕ} 34156 0), omega (arith, h, length-replicate {A = ℕ} 34156 0))

pub overflow_sub-place : goal.overflow_sub-place
overflow_sub-place c = omega (arith, c.requires.0.within)

pub shape_of-out-then-place-le4020 : goal.shape_of-out-then-place-le4020
shape_of-out-then-place-le4020 c = c.write_file_in.auto.out

pub returns-then-place-le4020 : goal.returns-then-place-le4020
returns-then-place-le4020 c = c.write_file_in.ensures

pub shape_of-out : goal.shape_of-out
shape_of-out c = c.write_file_in-2.auto.out

pub returns : goal.returns
returns c = c.write_file_in-2.ensures
