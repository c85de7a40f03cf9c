use Rattle.std.specs.Prelude.{Some}
use borrow.Author.Tests.{lt-ltb, le-ltb}
use Prim.Native.Nat.{◌≤◌, ◌<◌, ◌+◌, ◌-◌}
use mathlib.Core.Path.{◌≡◌, ap}
use native.Mathlib.Omega.{arith}
use lib.ListN.{length}
use Rattle.std.specs.Prelude.{Some}
use Rattle.lossy.specs.Lossy.{lossy}
use Rattle.lossy.proofs.Runs.{size-stretch, size-unmarked, size-marked}
use Rattle.lossy.proofs.lossy_within.Goals as goal

pub returns-then-room-size : goal.returns-then-room-size
returns-then-room-size c =
    let g = c.args in
    let h : g.room < length (lossy g.s.now) = omega (arith, size-stretch c.run_from-r.ensures.stretch) in
    rw (lt-ltb _ _ h)

pub returns-then-r-eq0 : goal.returns-then-r-eq0
returns-then-r-eq0 c =
    let l = c.loop-size in
    let g = c.args in
    let all : l.size + (c.run_from-r.result.end - l.at) ≡ length (lossy g.s.now) = omega (arith, size-unmarked c.run_from-r.ensures c.if-r-eq0.true) in
    let h : length (lossy g.s.now) ≤ g.room = omega arith in
    rw (le-ltb _ _ h) (ap Some all)

pub returns-then-room-size-lt3 : goal.returns-then-room-size-lt3
returns-then-room-size-lt3 c =
    let g = c.args in
    let h : g.room < length (lossy g.s.now) = omega (arith, size-marked c.run_from-r.ensures c.if-r-eq0.false) in
    rw (lt-ltb _ _ h)

pub loop-size-smaller : goal.loop-size-smaller
loop-size-smaller c =
    let x = c.run_from-r.ensures in
    omega (arith, x.inside, x.stretch.order)

pub loop-size-preserved : goal.loop-size-preserved
loop-size-preserved c =
    let x = c.run_from-r.ensures in
    (x.inside, omega arith, omega (arith, size-marked x c.if-r-eq0.false))

pub loop-size-init : goal.loop-size-init
loop-size-init c = (omega arith, omega arith, omega arith)

pub run_from-r-requires : goal.run_from-r-requires
run_from-r-requires c = (c.requires, c.loop-size.invariant.0)
