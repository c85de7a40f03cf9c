use mathlib.Core.Path.{◌∙◌}
use Rattle.keys.specs.Keys.{minmax_key}
use Rattle.decimal.proofs.Texts.{text-part}
use Rattle.area_values.proofs.set_minmax.Goals as goal

pub returns : goal.returns
unfolding minmax_key
returns c =
    rw (c.as_slice.ensures ∙ text-part _ _ c.format_minmax-text.ensures) at c.set.ensures
