use mathlib.Core.Path.{◌∙◌}
use Rattle.fixed_ranges.proofs.Digits.{leading-read}
use Rattle.fixed_ranges.proofs.leading.Goals as goal

pub returns : goal.returns
returns c = c.parse_natural.ensures ∙ leading-read c.args.s.now c.digits_len.result c.digits_len.ensures.1 c.requires
