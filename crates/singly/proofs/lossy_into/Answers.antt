-- It writes only where there is room, by asking.
use Prim.Native.Nat.{◌≤◌}
use native.Mathlib.Omega.{arith}
use lib.ListN.{length}
use Rattle.utf8.proofs.Rule.{class-table}
use Rattle.lossy.specs.Lossy.{lossy}
use Rattle.lossy.proofs.Written.{converted, refused, had-room, had-none}
use Rattle.singly.proofs.lossy_into.Goals as goal
use Rattle.singly.proofs.lossy_into.Goals.{In_ok-lossy_within}

pub lossy_within-requires : goal.lossy_within-requires
lossy_within-requires c = class-table

pub returns-in_err-lossy_within : goal.returns-in_err-lossy_within
returns-in_err-lossy_within c =
    let g = c.args in
    rw c.from_residual.ensures (refused g.out.now (lossy g.s.now) (had-none (lossy g.s.now) (length g.out.now) c.lossy_within.ensures c.in_err-lossy_within.was))

asked : (c : In_ok-lossy_within) → length (lossy c.args.s.now) ≤ length c.args.out.now
asked c =
    let g = c.args in
    had-room (lossy g.s.now) (length g.out.now) c.lossy_within.ensures c.in_ok-lossy_within.was

pub lossy_put-requires : goal.lossy_put-requires
lossy_put-requires c = (class-table, omega (arith, asked (goal.at.lossy_put-requires c).In_ok-lossy_within))

pub returns : goal.returns
returns c =
    let g = c.args in
    converted g.out.now (lossy g.s.now) (asked (goal.at.returns c).In_ok-lossy_within) c.lossy_put.ensures
