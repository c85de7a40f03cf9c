use mathlib.Core.Path.{◌≡◌, sym, ◌∙◌}
use Prim.Native.Nat.{◌+◌, ◌*◌}
use native.Mathlib.Omega.{arith}
use borrow.Author.Rules.{rules}
use lib.ListN.{drop}
use Rattle.std.proofs.lemmas.Bool.Decides.{nat_tests}
use Rattle.number.specs.Reading.{natural, digits_from, is_digit}
use Rattle.number.proofs.Digits.{natural-is, natural-none, digits_step, digits-stop, digits-end, digits-over, digits-within}
use Rattle.number.proofs.parse_natural.Goals as goal
use Rattle.number.proofs.parse_natural.Goals.{After-from}

pub returns-then-is_empty : goal.returns-then-is_empty
returns-then-is_empty c = rw (natural-none c.args.s.now (search rules))

pub loop-x-init : goal.loop-x-init
loop-x-init c = (omega arith, natural-is c.args.s.now (λ e. search rules))

pub returns-then-not-is_digit : goal.returns-then-not-is_digit
returns-then-not-is_digit c =
    let g = c.args in
    rw (c.loop-x.invariant.1, digits-stop c.loop-x.n g.s.now c.loop-x.x-index (omega arith) (sym c.is_digit.ensures ∙ c.if-not-is_digit.true))

pub overflow_sub-x : goal.overflow_sub-x
unfolding is_digit
overflow_sub-x c = grind (arith, nat_tests)

pub returns : goal.returns
returns c =
    let g = c.args in
    rw (c.loop-x.invariant.1, digits-end c.loop-x.n g.s.now c.loop-x.x-index (omega arith), digits-within g.limit c.loop-x.n c.loop-x.invariant.0)

-- one turn: the digit was read
turn : (c : After-from) → natural c.args.s.now ≡ digits_from (c.loop-x.n * 10 + c.from.result) (drop (c.loop-x.x-index + 1) c.args.s.now)
turn c =
    let g = c.args in
    c.loop-x.invariant.1
    ∙ digits_step c.loop-x.n g.s.now c.loop-x.x-index c.from.result (omega arith) (sym c.is_digit.ensures ∙ c.if-not-is_digit.false) (search rules)

pub returns-then-from-n : goal.returns-then-from-n
returns-then-from-n c =
    let g = c.args in
    rw (turn (goal.at.returns-then-from-n c).After-from, digits-over g.limit (c.loop-x.n * 10 + c.from.result) (drop (c.loop-x.x-index + 1) g.s.now) (search rules))

pub loop-x-preserved : goal.loop-x-preserved
loop-x-preserved c = (search rules, turn (goal.at.loop-x-preserved c).After-from)
