use mathlib.Core.Path.{◌≡◌, sym, ap, ◌∙◌}
use lib.IntN.{ℤ, ◌-ℤ◌}
use Rattle.decibels.specs.Gain.{amount, exact, step_units, shift_gain, remaining, nearest}
use Rattle.decibels.proofs.Amounts.{steps-exact}
use Rattle.decibels.proofs.Texts.{gain-below}
use Rattle.decibels.proofs.shift_gain.Goals as goal

pub returns-in_err-g : goal.returns-in_err-g
unfolding shift_gain
returns-in_err-g c = rw (sym c.parse_gain.ensures ∙ c.in_err-g.was) c.from_residual.ensures

pub subtract-left-requires : goal.subtract-left-requires
subtract-left-requires c =
    let b = gain-below c.args.text.now c.in_ok-g.g (sym c.parse_gain.ensures ∙ c.in_ok-g.was) in
    (b.0, b.1, c.steps_to_db.ensures.1, c.steps_to_db.ensures.2)

pub returns : goal.returns
unfolding remaining shift_gain
returns c =
    let g = c.args in
    let a = c.in_ok-g.g in
    let z = g.steps.0 in
    let e : exact c.steps_to_db.result ≡ step_units z = ap exact c.steps_to_db.ensures.0 ∙ steps-exact z in
    let left : c.subtract-left.result ≡ remaining z a = c.subtract-left.ensures.0 ∙ ap (λ (y : ℤ). amount a.0 (exact a -ℤ y)) e in
    let whole : c.rounded.result ≡ nearest (remaining z a) = c.rounded.ensures.0 ∙ ap nearest left in
    rw (sym c.parse_gain.ensures ∙ c.in_ok-g.was, c.format_gain.ensures, whole)
