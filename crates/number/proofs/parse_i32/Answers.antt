use mathlib.Core.Path.{ap, ◌∙◌}
use mathlib.Core.List.{List}
use Prim.Native.Nat.{ℕ}
use Rattle.lists.specs.Choice.{provided}
use Rattle.number.specs.Reading.{i32, is_i32, whole}
use Rattle.number.proofs.parse_i32.Goals as goal

pub returns : goal.returns
unfolding i32
returns c = c.parse_whole.ensures ∙ ap (λ (t : List ℕ). provided is_i32 (whole t)) c.trim.ensures
