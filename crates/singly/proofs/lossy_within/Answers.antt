use borrow.Author.Tests.{lt-ltb, le-ltb}
use Prim.Native.Nat.{◌≤◌, ◌<◌, ◌+◌}
use mathlib.Core.Path.{◌≡◌, ap}
use native.Mathlib.Omega.{arith}
use lib.ListN.{length, drop}
use Rattle.std.specs.Prelude.{Some}
use Rattle.lossy.specs.Lossy.{mark, lossy}
use Rattle.lists.specs.Write.{part}
use Rattle.singly.proofs.Next.{Next, character, character-size, ill-formed, nothing_left}
use Rattle.singly.proofs.lossy_within.Goals as goal
use Rattle.singly.proofs.lossy_within.Goals.{In-Bad, In-Good}

-- a character, or an ill-formed part, stands at this place
whole : (c : In-Good) → (let s = c.args.s.now in
    Next s c.loop-n.at c.in-Good.n (part c.loop-n.at (c.loop-n.at + c.in-Good.n) s))
whole c = character c.step_by.ensures c.in-Good.is

broken : (c : In-Bad) → (Next c.args.s.now c.loop-n.at c.in-Bad.n mark)
broken c = ill-formed c.step_by.ensures c.in-Bad.is

pub returns-then-room-size : goal.returns-then-room-size
returns-then-room-size c =
    let k = whole (goal.at.returns-then-room-size c).In-Good in
    let g = c.args in
    let h : g.room < length (lossy g.s.now) = omega (arith, k.sizes, character-size k) in
    rw (lt-ltb _ _ h)

pub loop-n-preserved-in-Good : goal.loop-n-preserved-in-Good
loop-n-preserved-in-Good c = let k = whole (goal.at.loop-n-preserved-in-Good c).In-Good in (k.inside, omega arith, omega (arith, k.sizes, character-size k))

pub returns-then-room-size-lt3 : goal.returns-then-room-size-lt3
returns-then-room-size-lt3 c =
    let k = broken (goal.at.returns-then-room-size-lt3 c).In-Bad in
    let g = c.args in
    let h : g.room < length (lossy g.s.now) = omega (arith, k.sizes) in
    rw (lt-ltb _ _ h)

pub loop-n-preserved : goal.loop-n-preserved
loop-n-preserved c = let k = broken (goal.at.loop-n-preserved c).In-Bad in (k.inside, omega arith, omega (arith, k.sizes))

pub returns-in-End : goal.returns-in-End
returns-in-End c =
    let l = c.loop-n in
    let g = c.args in
    let none : length (lossy (drop l.at g.s.now)) ≡ 0 = ap length (nothing_left g.s.now l.at c.step_by.ensures c.in-End.is) in
    let all : l.size ≡ length (lossy g.s.now) = omega arith in
    let h : length (lossy g.s.now) ≤ g.room = omega arith in
    rw (le-ltb _ _ h) (ap Some all)

pub loop-n-init : goal.loop-n-init
loop-n-init c = (omega arith, omega arith, omega arith)

pub step_by-requires : goal.step_by-requires
step_by-requires c = c.requires

pub overflow_add-at : goal.overflow_add-at
overflow_add-at c = omega (arith, (whole (goal.at.overflow_add-at c).In-Good).inside)

pub loop-n-smaller-in-Good : goal.loop-n-smaller-in-Good
loop-n-smaller-in-Good c = omega (arith, (whole (goal.at.loop-n-smaller-in-Good c).In-Good).inside, (whole (goal.at.loop-n-smaller-in-Good c).In-Good).moves)

pub overflow_add-at-in-Bad : goal.overflow_add-at-in-Bad
overflow_add-at-in-Bad c = omega (arith, (broken (goal.at.overflow_add-at-in-Bad c).In-Bad).inside)

pub loop-n-smaller : goal.loop-n-smaller
loop-n-smaller c = omega (arith, (broken (goal.at.loop-n-smaller c).In-Bad).inside, (broken (goal.at.loop-n-smaller c).In-Bad).moves)
