-- `lossy::lossy_into` meets its contract: it writes only where there is room, by the laws on sizes, or by asking.
use Prim.Native.Nat.{◌≤◌, ◌<◌}
use mathlib.Core.Path.{sym, ◌∙◌}
use native.Mathlib.Omega.{arith}
use lib.ListN.{length}
use Rattle.utf8.proofs.Rule.{class-table}
use Rattle.lossy.specs.Lossy.{lossy}
use Rattle.lossy.proofs.Laws.{lossy-valid}
use Rattle.lossy.proofs.Sizes.{length-lossy, least-lossy}
use Rattle.lossy.proofs.Written.{converted, refused, had-room, had-none}
use Rattle.lossy.proofs.lossy_into.Goals as goal
use Rattle.lossy.proofs.lossy_into.Goals.{In_ok-lossy_within, Then-s-out}

pub returns-then-out-s : goal.returns-then-out-s
returns-then-out-s c =
    let g = c.args in
    let h : length g.out.now < length (lossy g.s.now) = omega (arith, least-lossy g.s.now) in
    refused g.out.now (lossy g.s.now) h

-- three times the text is enough
ample : (p : Then-s-out) → length (lossy p.args.s.now) ≤ length p.args.out.now
ample p = omega (arith, length-lossy p.args.s.now)

pub lossy_put-requires : goal.lossy_put-requires
lossy_put-requires c = (class-table, omega (arith, ample (goal.at.lossy_put-requires c).Then-s-out))

pub returns-then-s-out : goal.returns-then-s-out
returns-then-s-out c =
    let g = c.args in
    converted g.out.now (lossy g.s.now) (ample (goal.at.returns-then-s-out c).Then-s-out) c.lossy_put.ensures

pub is_utf8_by-requires : goal.is_utf8_by-requires
is_utf8_by-requires c = class-table

pub returns-then-is_utf8_by : goal.returns-then-is_utf8_by
returns-then-is_utf8_by c =
    let g = c.args in
    rw (lossy-valid g.s.now (sym c.is_utf8_by.ensures ∙ c.if-is_utf8_by.true)) (converted g.out.now g.s.now c.if-out-s.false c.put.ensures)

pub lossy_within-requires : goal.lossy_within-requires
lossy_within-requires c = class-table

pub returns-in_err-lossy_within : goal.returns-in_err-lossy_within
returns-in_err-lossy_within c =
    let g = c.args in
    rw c.from_residual.ensures (refused g.out.now (lossy g.s.now) (had-none (lossy g.s.now) (length g.out.now) c.lossy_within.ensures c.in_err-lossy_within.was))

asked : (c : In_ok-lossy_within) → length (lossy c.args.s.now) ≤ length c.args.out.now
asked c =
    let g = c.args in
    had-room (lossy g.s.now) (length g.out.now) c.lossy_within.ensures c.in_ok-lossy_within.was

pub lossy_put-requires-2 : goal.lossy_put-requires-2
lossy_put-requires-2 c = (class-table, omega (arith, asked (goal.at.lossy_put-requires-2 c).In_ok-lossy_within))

pub returns : goal.returns
returns c =
    let g = c.args in
    converted g.out.now (lossy g.s.now) (asked (goal.at.returns c).In_ok-lossy_within) c.lossy_put-2.ensures
