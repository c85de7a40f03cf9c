use mathlib.Core.Path.{ap, ◌∙◌}
use Rattle.lists.proofs.Wrote.{rest}
use Rattle.number.specs.Trim.{trim_right, trim}
use Rattle.number.proofs.trim.Goals as goal

pub returns : goal.returns
unfolding trim
returns c = c.back.ensures.1 ∙ ap trim_right (rest c.args.s.now c.front.result ∙ c.front.ensures.1)
