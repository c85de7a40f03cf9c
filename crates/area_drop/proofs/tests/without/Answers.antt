use borrow.Author.Rules.{rules}
use mathlib.Core.Path.{sym, ◌∙◌}
use native.Mathlib.Omega.{arith}
use Rattle.keys.specs.Keys.{same_key}
use Rattle.items.specs.Items.{without}
use Rattle.area_drop.proofs.Plans.{Sized, sized}
use Rattle.area_drop.proofs.tests.without.Goals as goal
use Rattle.area_drop.proofs.tests.without.Goals.{In-Some}

-- what the measure says
here : (c : In-Some) → Sized (without (same_key c.args.key.now)) c.args.count c.args.area.now c.in-Some.size
here c =
    let p = same_key c.args.key.now in
    sized (without p) c.args.count c.args.area.now c.in-Some.size (sym c.in-Some.is ∙ c.measure_without.ensures p (λ key b s e. search rules))

pub write_without-requires-clause-formed : goal.write_without-requires-clause-formed
write_without-requires-clause-formed c = (here (goal.at.write_without-requires-clause-formed c).In-Some).some

pub write_without-requires-clause-room : goal.write_without-requires-clause-room
write_without-requires-clause-room c =
    (same_key c.args.key.now, λ key b s e. search rules, omega (arith, (here (goal.at.write_without-requires-clause-room c).In-Some).length))
