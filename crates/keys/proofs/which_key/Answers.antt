use Rattle.std.proofs.Common.{arith, ◌∙◌, List, ℕ, ap}
use Rattle.std.proofs.lemmas.Grind.{common_steps}
use Rattle.keys.specs.Keys.{which_of, which_key}
use Rattle.keys.proofs.Table.{table-keys}
use Rattle.keys.proofs.Keys.{short-key, long-key}
use Rattle.keys.proofs.which_key.Goals as goal

pub returns-then-key-lt12 : goal.returns-then-key-lt12
returns-then-key-lt12 c = grind (arith, common_steps, short-key, long-key)

pub returns : goal.returns
unfolding which_key
returns c = c.place_in.ensures ∙ ap (λ (ns : List (List ℕ)). which_of ns c.args.key.now) table-keys
