use mathlib.Core.Path.{sym, ◌∙◌}
use mathlib.Core.Logic.{⊎_elim}
use lib.ListN.{length}
use native.Mathlib.Omega.{arith}
use Rattle.items.specs.Items.{without}
use Rattle.area_edit.proofs.Plans.{fits-yes, fits-room, fits-long, refused, finished}
use Rattle.area_drop.proofs.Plans.{edit-12, edit-5, edit-yes, Sized, sized, unsized}
use Rattle.area_drop.proofs.edit_without.Goals as goal
use Rattle.area_drop.proofs.edit_without.Goals.{In-Some}

pub returns-in_default : goal.returns-in_default
returns-in_default g c =
    let s = c.args in
    refused s.out.now (edit-12 s.count s.area.now (length s.out.now) (without (g.T.KeyTest.test c.args.goes.now)) (unsized (without (g.T.KeyTest.test c.args.goes.now)) s.count s.area.now (sym c.in_default.is ∙ c.measure_without_keys.ensures)))

-- what the measure says
here : (g : _) (c : In-Some g) → Sized (without (g.T.KeyTest.test c.args.goes.now)) c.args.count c.args.area.now c.in-Some.size
here g c = sized (without (g.T.KeyTest.test c.args.goes.now)) c.args.count c.args.area.now c.in-Some.size (sym c.in-Some.is ∙ c.measure_without_keys.ensures)

pub returns-then-out-size : goal.returns-then-out-size
returns-then-out-size g c =
    let s = c.args in
    let x = here g (goal.at.returns-then-out-size g c).In-Some in
    refused s.out.now (edit-5 s.count s.area.now (length s.out.now) (without (g.T.KeyTest.test c.args.goes.now)) x.some
    (⊎_elim (λ h. fits-room _ _ (omega (arith, x.length))) (λ h. fits-long _ _ (omega (arith, x.length))) c.then-out-size.either))

pub write_without_keys-requires-clause-formed : goal.write_without_keys-requires-clause-formed
write_without_keys-requires-clause-formed g c = (here g (goal.at.write_without_keys-requires-clause-formed g c).In-Some).some

pub write_without_keys-requires-clause-room : goal.write_without_keys-requires-clause-room
write_without_keys-requires-clause-room g c = omega (arith, (here g (goal.at.write_without_keys-requires-clause-room g c).In-Some).length)

pub returns : goal.returns
returns g c =
    let s = c.args in
    let x = here g (goal.at.returns g c).In-Some in
    finished s.out.now {out' = c.write_without_keys.new.out}
    (edit-yes s.count s.area.now (length s.out.now) (without (g.T.KeyTest.test c.args.goes.now)) x.some (fits-yes _ _ (omega (arith, x.length, c.if-out-size.false)) (omega (arith, x.length, c.if-size-gt-FILE_LIMIT.false))))
    x.count x.length c.write_without_keys.ensures.1
