use mathlib.Core.Path.{◌≡◌, refl, ap, ◌∙◌}
use borrow.Author.Tests.{le-leb}
use Rattle.replies.specs.Refusal.{number_of}
use Rattle.gate.proofs.Gates.{gate-unfit, gate-place}
use Rattle.c_edit.proofs.zib_gate.Goals as goal

pub returns-in-Ok : goal.returns-in-Ok
returns-in-Ok c =
    let (p, e) = gate-place c.args.file.now c.gate.ensures c.in-Ok.is in
    rw (le-leb _ _ c.if-file-gt-FILE_LIMIT.false, p, ← e) (refl, refl, refl, refl)

pub returns-in-Err : goal.returns-in-Err
returns-in-Err c =
    let (p, e) = gate-unfit c.args.file.now c.gate.ensures c.in-Err.is in
    rw (le-leb _ _ c.if-file-gt-FILE_LIMIT.false, p) (c.number-in-Err.ensures ∙ ap number_of e, refl, refl, refl)
