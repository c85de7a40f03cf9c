use mathlib.Core.Path.{sym, ap, ◌∙◌}
use Rattle.std.specs.Prelude.{None}
use Rattle.lists.specs.Choice.{found}
use Rattle.area_gains.proofs.Marks.{place_is, place_by, sub_is}
use Rattle.area_gains.proofs.place.Goals as goal

pub returns-in_err-which_key : goal.returns-in_err-which_key
returns-in_err-which_key c = c.from_residual.ensures ∙ ap (λ o. found o None place_by) c.in_err-which_key.ensures ∙ sym (place_is c.args.key.now)

pub returns : goal.returns
returns c = sub_is c.checked_sub.result c.in_ok-which_key.field-0 c.checked_sub.ensures ∙ ap (λ o. found o None place_by) c.in_ok-which_key.ensures ∙ sym (place_is c.args.key.now)
