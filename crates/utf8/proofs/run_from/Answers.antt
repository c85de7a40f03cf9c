use Prim.Native.Nat.{◌+◌}
use mathlib.Core.Path.{sym, ◌∙◌}
use native.Mathlib.Omega.{arith}
use lib.ListN.{drop_of_length-le}
use Rattle.utf8.specs.declared.Part.TheVariants.{Good, Bad}
use Rattle.utf8.specs.Utf8.{step_of}
use Rattle.utf8.proofs.Turn.{Turn, good, bad}
use Rattle.utf8.proofs.Stretch.{join, plain, char, stops}
use Rattle.utf8.proofs.run_from.Goals as goal
use Rattle.utf8.proofs.run_from.Goals.{In-Bad, In-Good}

goes : (c : In-Good) → Turn c.args.s.now c.loop-at.at (Good c.in-Good.n)
goes c = good c.step_by.ensures c.in-Good.is

fails : (c : In-Bad) → Turn c.args.s.now c.loop-at.at (Bad c.in-Bad.n)
fails c = bad c.step_by.ensures c.in-Bad.is

pub loop-at-preserved-then-s-at-lt128 : goal.loop-at-preserved-then-s-at-lt128
loop-at-preserved-then-s-at-lt128 c = join (plain (c.loop-at.at + 1) c.loop-at.invariant (omega arith) (omega arith) (omega arith)) c.plain_end-at.ensures

pub loop-at-preserved : goal.loop-at-preserved
loop-at-preserved c =
    join (char c.loop-at.invariant (sym c.step_by.ensures ∙ c.in-Good.is) (goes (goal.at.loop-at-preserved c).In-Good).inside) c.threes_end-at.ensures

pub returns-in-Bad : goal.returns-in-Bad
returns-in-Bad c =
    let t = fails c in
    record { stretch = c.loop-at.invariant; inside = t.inside; stop = sym c.step_by.ensures ∙ c.in-Bad.is ∙ stops _ t.moves }

pub returns-in-End : goal.returns-in-End
returns-in-End c =
    let p = c.loop-at.invariant in
    record { stretch = p; inside = omega (arith, p.inside); stop = sym c.step_by.ensures ∙ c.in-End.is }

pub returns : goal.returns
unfolding step_of
returns c =
    let l = c.loop-at in
    let p = l.invariant in
    record { stretch = p; inside = omega (arith, p.inside); stop = rw (drop_of_length-le c.args.s.now {i = l.at} (omega arith)) }

pub front_end-at-requires : goal.front_end-at-requires
front_end-at-requires c = c.requires.1

pub loop-at-init : goal.loop-at-init
loop-at-init c = c.front_end-at.ensures

pub loop-at-smaller-then-s-at-lt128 : goal.loop-at-smaller-then-s-at-lt128
loop-at-smaller-then-s-at-lt128 c = omega (arith, c.plain_end-at.ensures.order, c.plain_end-at.ensures.inside)

pub overflow_add-at-in-Good : goal.overflow_add-at-in-Good
overflow_add-at-in-Good c = omega (arith, (goes c).inside)

pub threes_end-at-requires : goal.threes_end-at-requires
threes_end-at-requires c = (c.requires.0, (goes c).inside)

pub loop-at-smaller : goal.loop-at-smaller
loop-at-smaller c = let t = goes (goal.at.loop-at-smaller c).In-Good in omega (arith, t.moves, c.threes_end-at.ensures.order, c.threes_end-at.ensures.inside)
