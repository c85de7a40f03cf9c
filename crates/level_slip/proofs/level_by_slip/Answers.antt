use mathlib.Core.Path.{◌≡◌, refl, sym, ◌∙◌}
use Rattle.std.specs.Prelude.{Err}
use borrow.Author.Rules.{rules}
use Rattle.calls.specs.Calls.{slip_plan}
use Rattle.level_slip.proofs.Resolving.{unread, read}
use Rattle.level_slip.proofs.level_by_slip.Goals as goal

pub returns-in_err-wish : goal.returns-in_err-wish
unfolding slip_plan
returns-in_err-wish c =
    let u = unread c.slip_form.result c.in_err-wish.ensures.value in
    let r : c.from_residual.result ≡ Err c.in_err-wish.field-0.0 = search rules in
    rw (sym c.slip_form.ensures ∙ u.0, r, u.1) (refl, refl, refl, refl)

pub returns : goal.returns
unfolding slip_plan
returns c =
    rw (sym c.slip_form.ensures ∙ read c.slip_form.result c.in_ok-wish.ensures.value, ← c.resolve_mode-mode.ensures) c.level.ensures
