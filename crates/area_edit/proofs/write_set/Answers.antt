use mathlib.Core.Path.{sym, ap, ◌∙◌}
use native.Mathlib.Omega.{arith}
use lib.ListN.{length}
use Rattle.std.specs.Prelude.{Ok}
use Rattle.area_edit.proofs.Setting.{Replaces, replaces, Appends, appends}
use Rattle.area_edit.proofs.write_set.Goals as goal
use Rattle.area_edit.proofs.write_set.Goals.{In-Some, In-None}

-- the key is there
here : (c : In-Some) → let g = c.args in Replaces g.area.now g.count g.key.now g.value.now c.in-Some.p
here c = let g = c.args in replaces g.area.now g.count g.key.now g.value.now c.in-Some.p (ap Ok (sym c.in-Some.is) ∙ c.requires.0)

-- the key is not there
gone : (c : In-None) → let g = c.args in Appends g.area.now g.count g.key.now g.value.now
gone c = let g = c.args in appends g.area.now g.count g.key.now g.value.now (ap Ok (sym c.in-None.is) ∙ c.requires.0)

pub put_replaced-requires : goal.put_replaced-requires
put_replaced-requires c =
    let x = here (goal.at.put_replaced-requires c).In-Some in
    (x.there.key-end, x.there.end, x.there.within, c.requires.1, omega (arith, x.size, c.requires.2))

pub put_appended-requires : goal.put_appended-requires
put_appended-requires c = (c.requires.1, omega (arith, (gone (goal.at.put_appended-requires c).In-None).size, c.requires.2))

pub overflow_add-result : goal.overflow_add-result
overflow_add-result c = omega (arith, (gone (goal.at.overflow_add-result c).In-None).few, c.well_formed.0)

pub returns-in-Some : goal.returns-in-Some
returns-in-Some c =
    let x = here (goal.at.returns-in-Some c).In-Some in
    let e = x.bytes (λ i. omega (arith, c.type_inv.area i)) in
    (x.count, c.put_replaced.ensures.0 ∙ ap length e, c.put_replaced.ensures.1 ∙ rw e)

pub returns-in-None : goal.returns-in-None
returns-in-None c =
    let x = gone (goal.at.returns-in-None c).In-None in
    let e = x.bytes (λ i. omega (arith, c.type_inv.area i)) in
    (x.count, c.put_appended.ensures.0 ∙ ap length e, c.put_appended.ensures.1 ∙ rw e)
