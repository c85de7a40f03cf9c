use Rattle.std.proofs.Common.{arith}
use Rattle.std.proofs.lemmas.Grind.{common_steps}
use Rattle.keys.specs.Keys.{is_key}
use Rattle.keys.proofs.is_key.Goals as goal

pub returns-then-all_printable : goal.returns-then-all_printable
unfolding is_key
returns-then-all_printable c = grind (arith, common_steps)

pub returns-else-all_printable : goal.returns-else-all_printable
unfolding is_key
returns-else-all_printable c = grind (arith, common_steps)
