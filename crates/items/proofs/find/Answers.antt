use mathlib.Core.Path.{sym, ap, ◌∙◌}
use native.Mathlib.Omega.{arith}
use borrow.Author.Rules.{rules}
use Rattle.std.specs.Prelude.{None, Some, Ok}
use Rattle.lists.specs.Choice.{is_some}
use Rattle.items.specs.Answers.{place_by, count_by}
use Rattle.items.proofs.Located.{Behind, behind}
use Rattle.items.proofs.Finding.{find-12, find-3, find-is, find_none, There, there, First, find-malformed, first-at, later}
use Rattle.items.proofs.find.Goals as goal
use Rattle.items.proofs.find.Goals.{In-Some, In_ok-later}

pub returns-in_err-m : goal.returns-in_err-m
returns-in_err-m c =
    let g = c.args in
    let e = find-12 g.area.now g.count g.key.now (sym c.in_err-m.ensures.1) in
    search rules

pub returns-then-is_key : goal.returns-then-is_key
returns-then-is_key c =
    let g = c.args in
    let e = c.in_ok-m.ensures.1 ∙ ap (λ o. place_by g.area.now (Ok o)) c.in_default.is in
    find_none g.area.now g.count g.key.now (sym e) (sym c.if-is_key.ensures)

pub returns-else-is_key : goal.returns-else-is_key
returns-else-is_key c =
    let g = c.args in
    let e = c.in_ok-m.ensures.1 ∙ ap (λ o. place_by g.area.now (Ok o)) c.in_default.is in
    find-3 g.area.now g.count g.key.now None (sym e) (sym c.if-is_key.ensures)

-- what the first match says of the area
first : (c : In-Some) → First c.args.area.now c.args.count c.args.key.now c.in-Some.m
first c =
    let g = c.args in
    let e = c.in-Some.is in
    record {
      place = c.in_ok-m.ensures.1 ∙ ap (λ o. place_by g.area.now (Ok o)) e;
      matches = c.in_ok-m.ensures.2 ∙ ap (λ o. count_by g.area.now g.key.now (Ok o)) e;
    }

-- and whether there is a later one
more : (c : In_ok-later) → Behind c.args.area.now c.args.key.now c.in-Some.m.place.end c.in-Some.m.left (is_some c.in_ok-later.later)
more c = behind c.args.area.now c.args.key.now c.in-Some.m.place.end c.in-Some.m.left c.in_ok-later.later c.in_ok-later.ensures

placed : (c : In_ok-later) → There c.args.area.now c.in-Some.m.place
placed c = there c.args.area.now c.args.count c.args.key.now c.in-Some.m.place (first-at (first (goal.at.In_ok-later c).In-Some) (more c))

pub returns-in_err-later : goal.returns-in_err-later
returns-in_err-later c =
    let e = find-malformed (first (goal.at.returns-in_err-later c).In-Some) (c.in_err-later.ensures) in
    search rules

pub returns-then-not-is_key : goal.returns-then-not-is_key
returns-then-not-is_key c =
    let g = c.args in
    let p = goal.at.returns-then-not-is_key c in
    find-3 g.area.now g.count g.key.now (Some c.in-Some.m.place) (first-at (first p.In-Some) (more p.In_ok-later)) (sym c.if-not-is_key.ensures)

pub overflow_add-start : goal.overflow_add-start
overflow_add-start c = let p = placed (goal.at.overflow_add-start c).In_ok-later in omega (arith, p.end, c.ranges)

pub overflow_sub-result : goal.overflow_sub-result
overflow_sub-result c = let p = placed (goal.at.overflow_sub-result c).In_ok-later in omega arith

pub returns : goal.returns
returns c =
    let g = c.args in
    let p = goal.at.returns c in
    let f = first p.In-Some in
    let b = more p.In_ok-later in
    let h = c.is_some.ensures in
    find-is g.area.now g.count g.key.now (Some c.in-Some.m.place) (first-at f b) (sym c.if-not-is_key.ensures) (c.is_some.ensures ∙ later f b)
