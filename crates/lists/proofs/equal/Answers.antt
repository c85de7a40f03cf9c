use mathlib.Core.Path.{◌∙◌}
use Rattle.lists.proofs.Same.{same-is}
use Rattle.lists.proofs.equal.Goals as goal

pub returns : goal.returns
returns c = let g = c.args in c.eq.ensures ∙ same-is g.a.now g.b.now
