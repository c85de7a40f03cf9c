use Rattle.std.proofs.Common.{arith, rules, sym}
use Rattle.std.proofs.lemmas.Grind.{common_steps}
use Rattle.keys.proofs.Keys.{which-below}
use Rattle.keys.proofs.known_key.Goals as goal

pub returns-in_default : goal.returns-in_default
returns-in_default c =
    let below = which-below c.args.key.now c.in_ok-which_key.field-0 (sym c.in_ok-which_key.ensures) in
    grind (arith, common_steps, rules, below)
