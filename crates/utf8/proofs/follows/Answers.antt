-- `utf8::follows` meets its contract: each answer by the tests that led to it.
use borrow.Author.Tests.{le-leb, lt-leb}
use mathlib.Core.Path.{sym, ◌∙◌}
use native.Mathlib.Omega.{arith}
use lib.ListN.{drop_of_length-le}
use Rattle.utf8.proofs.Steps.{begins-at}
use Rattle.utf8.proofs.follows.Goals as goal

pub returns-then-s-at : goal.returns-then-s-at
returns-then-s-at c =
    let g = c.args in
    sym (begins-at g.low g.high g.s.now g.at (omega arith) ∙ rw (lt-leb _ _ c.if-s-at.true))

pub returns : goal.returns
returns c =
    let g = c.args in
    sym (begins-at g.low g.high g.s.now g.at (omega arith) ∙ rw (le-leb _ _ c.if-s-at.false))

pub returns-then-at-s : goal.returns-then-at-s
returns-then-at-s c = rw (drop_of_length-le c.args.s.now {i = c.args.at} (omega arith))
