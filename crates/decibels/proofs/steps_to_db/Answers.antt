use mathlib.Core.Path.{◌≡◌, ◌∙◌}
use native.Mathlib.Omega.{arith}
use mir.Facts.{to_z-of_z}
use mir.Syntax.{w32}
use mir.Val.{SFits}
use borrow.Author.Rules.{rules}
use lib.IntN.{nat_abs}
use Rattle.decimal.proofs.Places.{negative}
use Rattle.decibels.proofs.Amounts.{steps-amount}
use Rattle.decibels.proofs.steps_to_db.Goals as goal

pub returns : goal.returns
returns c =
    let z = c.args.steps.0 in
    let f : SFits w32 z = search rules in
    let size : c.from-n.result ≡ nat_abs z = c.from-n.ensures ∙ rw (to_z-of_z f) at c.unsigned_abs.ensures.value in
    (rw (to_z-of_z f, negative z) (steps-amount z c.from-n.result size), omega arith, omega arith)
