use mathlib.Core.Path.{sym, ap, ◌∙◌}
use native.Mathlib.Omega.{arith}
use Rattle.std.specs.Prelude.{Ok}
use Rattle.area_edit.proofs.Setting.{Replaces, replaces, Appends, appends}
use Rattle.area_edit.proofs.measure_set.Goals as goal
use Rattle.area_edit.proofs.measure_set.Goals.{In-Some, In-None}

-- the key is there
here : (c : In-Some) → let g = c.args in Replaces g.area.now g.count g.key.now g.value.now c.in-Some.p
here c = let g = c.args in replaces g.area.now g.count g.key.now g.value.now c.in-Some.p (ap Ok (sym c.in-Some.is) ∙ c.requires.0)

-- the key is not there
gone : (c : In-None) → let g = c.args in Appends g.area.now g.count g.key.now g.value.now
gone c = let g = c.args in appends g.area.now g.count g.key.now g.value.now (ap Ok (sym c.in-None.is) ∙ c.requires.0)

pub overflow_add-result : goal.overflow_add-result
overflow_add-result c = let x = (here (goal.at.overflow_add-result c).In-Some).there in omega (arith, x.end, x.within, c.well_formed.0)

pub overflow_add-result-in-Some : goal.overflow_add-result-in-Some
overflow_add-result-in-Some c = let x = (here (goal.at.overflow_add-result-in-Some c).In-Some).there in omega (arith, x.end, x.within, c.well_formed.0)

pub overflow_sub-result : goal.overflow_sub-result
overflow_sub-result c = (here (goal.at.overflow_sub-result c).In-Some).there.within

pub overflow_add-result-in-Some-2 : goal.overflow_add-result-in-Some-2
overflow_add-result-in-Some-2 c = let x = (here (goal.at.overflow_add-result-in-Some-2 c).In-Some).there in omega (arith, x.end, x.within, c.well_formed.0)

pub overflow_add-result-in-None : goal.overflow_add-result-in-None
overflow_add-result-in-None c = omega (arith, (gone c).few, c.well_formed.0)

pub returns-in-Some : goal.returns-in-Some
returns-in-Some c = let x = here (goal.at.returns-in-Some c).In-Some in (x.count, x.size)

pub returns-in-None : goal.returns-in-None
returns-in-None c = let x = gone (goal.at.returns-in-None c).In-None in (x.count, x.size)
