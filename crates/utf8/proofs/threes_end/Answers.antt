use mathlib.Core.Path.{◌≡◌, refl, sym, ◌∙◌}
use native.Mathlib.Omega.{arith}
use lib.ListN.{drop}
use Rattle.utf8.specs.declared.Part.TheVariants.{Good}
use Rattle.utf8.specs.Utf8.{class_at, step_of}
use Rattle.utf8.proofs.Steps.{opened}
use Rattle.utf8.proofs.Turn.{Turn, good}
use Rattle.utf8.proofs.Stretch.{none, char}
use Rattle.utf8.proofs.threes_end.Goals as goal
use Rattle.utf8.proofs.threes_end.Goals.{In-Good}

steps : (c : In-Good) → step_of (drop c.loop-at.at c.args.s.now) ≡ Good c.in-Good.n
unfolding class_at
steps c = opened c.args.s.now c.loop-at.at 3 (omega arith) (sym c.number_of.ensures ∙ c.if-number_of-ne3.false) ∙ sym c.character.ensures ∙ c.in-Good.is

goes : (c : In-Good) → Turn c.args.s.now c.loop-at.at (Good c.in-Good.n)
goes c = good (sym (steps c)) refl

pub loop-at-init : goal.loop-at-init
loop-at-init c = none _ _ c.requires.1

pub returns-then-number_of-ne3 : goal.returns-then-number_of-ne3
returns-then-number_of-ne3 c = c.loop-at.invariant

pub returns-in_default : goal.returns-in_default
returns-in_default c = c.loop-at.invariant

pub overflow_add-at-in-loop-at : goal.overflow_add-at-in-loop-at
overflow_add-at-in-loop-at c = omega (arith, (goes c).inside)

pub loop-at-smaller : goal.loop-at-smaller
loop-at-smaller c = omega (arith, (goes c).inside, (goes c).moves)

pub loop-at-preserved : goal.loop-at-preserved
loop-at-preserved c = char c.loop-at.invariant (steps c) (goes c).inside

pub returns : goal.returns
returns c = c.loop-at.invariant
