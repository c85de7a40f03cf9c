use Prim.Native.Nat.{◌+◌}
use native.Mathlib.Omega.{arith}
use Rattle.lists.specs.Write.{part}
use Rattle.lossy.specs.Lossy.{mark}
use Rattle.singly.proofs.Next.{Next, character, character-size, ill-formed, nothing_left, fits_next, went_on, ended-there}
use Rattle.lossy.proofs.Written.{begin}
use Rattle.singly.proofs.lossy_put.Goals as goal
use Rattle.singly.proofs.lossy_put.Goals.{In-Bad, In-Good}

pub loop-n-init : goal.loop-n-init
loop-n-init c = begin c.args.s.now c.args.out.now c.args.at c.requires.1

-- a character, or an ill-formed part, stands at this place
whole : (c : In-Good) → (let s = c.args.s.now in
    Next s c.loop-n.from c.in-Good.n (part c.loop-n.from (c.loop-n.from + c.in-Good.n) s))
whole c = character c.step_by.ensures c.in-Good.is

broken : (c : In-Bad) → (Next c.args.s.now c.loop-n.from c.in-Bad.n mark)
broken c = ill-formed c.step_by.ensures c.in-Bad.is

pub put_part-o-requires : goal.put_part-o-requires
put_part-o-requires c =
    let k = whole (goal.at.put_part-o-requires c).In-Good in
    (omega arith, k.inside, omega (arith, fits_next c.loop-n.invariant k, character-size k))

pub loop-n-smaller-in-Good : goal.loop-n-smaller-in-Good
loop-n-smaller-in-Good c = let k = whole (goal.at.loop-n-smaller-in-Good c).In-Good in omega (arith, k.inside, k.moves)

pub loop-n-preserved-in-Good : goal.loop-n-preserved-in-Good
loop-n-preserved-in-Good c =
    let k = whole (goal.at.loop-n-preserved-in-Good c).In-Good in
    went_on c.loop-n.invariant k (c.put_part-o.ensures.0, c.put_part-o.ensures.1) c.put_part-o.auto.out

pub put-o-requires : goal.put-o-requires
put-o-requires c =
    fits_next c.loop-n.invariant (broken (goal.at.put-o-requires c).In-Bad)

pub loop-n-smaller : goal.loop-n-smaller
loop-n-smaller c = let k = broken (goal.at.loop-n-smaller c).In-Bad in omega (arith, k.inside, k.moves)

pub loop-n-preserved : goal.loop-n-preserved
loop-n-preserved c =
    let k = broken (goal.at.loop-n-preserved c).In-Bad in
    went_on c.loop-n.invariant k c.put-o.ensures c.put-o.auto.out

pub returns-in-End : goal.returns-in-End
returns-in-End c =
    ended-there c.loop-n.invariant (nothing_left c.args.s.now c.loop-n.from c.step_by.ensures c.in-End.is)

pub step_by-requires : goal.step_by-requires
step_by-requires c = c.requires.0

pub overflow_add-e : goal.overflow_add-e
overflow_add-e c = omega (arith, (whole c).inside)

pub overflow_add-from : goal.overflow_add-from
overflow_add-from c = omega (arith, (broken (goal.at.overflow_add-from c).In-Bad).inside)

pub shape_of-out-in-End : goal.shape_of-out-in-End
shape_of-out-in-End c = c.loop-n.invariant.long
