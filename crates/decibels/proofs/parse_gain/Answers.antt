use mathlib.Core.Path.{◌≡◌, sym, ap, ◌∙◌}
use Rattle.std.specs.Prelude.{Some}
use Rattle.lists.proofs.Wrote.{rest}
use Rattle.number.specs.Reading.{unsigned}
use Rattle.decibels.specs.Gain.{millionths, parse_gain}
use Rattle.decibels.proofs.parse_gain.Goals as goal
use Rattle.decibels.proofs.parse_gain.Goals.{After-parse_millionths}

-- the count of what follows the sign
count : (c : After-parse_millionths) → c.parse_millionths.result ≡ millionths (unsigned c.args.text.now)
count c = c.parse_millionths.ensures ∙ ap millionths (rest c.args.text.now c.sign_len.result ∙ c.sign_len.ensures.1)

pub returns-in_err-n : goal.returns-in_err-n
unfolding parse_gain
returns-in_err-n c = rw (sym (count (goal.at.returns-in_err-n c).After-parse_millionths) ∙ c.in_err-n.was) c.from_residual.ensures

pub returns : goal.returns
unfolding parse_gain
returns c =
    rw (sym (count (goal.at.returns c).After-parse_millionths) ∙ c.in_ok-n.was)
    (ap (λ x. Some (record { 0 = x; 1 = c.in_ok-n.n; 2 = 0 })) c.is_minus-minus.ensures)
