use mathlib.Core.Path.{◌≡◌, refl, sym, ap, ◌∙◌}
use mathlib.Core.List.{[]}
use native.Mathlib.Omega.{arith}
use borrow.Author.Rules.{rules}
use lib.ListN.{length, get_or, length-map}
use Rattle.utf8.specs.Utf8.{valid}
use Rattle.area_gains.proofs.Rest.{lent, lent-at, all-next}
use Rattle.area_gains.proofs.are_utf8.Goals as goal
use Rattle.area_gains.proofs.are_utf8.Goals.{After-is_utf8}

five : (c : After-is_utf8) → length c.args.texts ≡ 5
five c = search rules

-- the turn's text
here : (c : After-is_utf8) → c.is_utf8.result ≡ valid (get_or (lent c.args.texts) c.loop-i.i [])
here c =
    let n = five c in
    c.is_utf8.ensures ∙ ap valid (lent-at c.args.texts (lent c.args.texts) c.loop-i.i _ refl (omega arith))

pub returns-then-not-is_utf8 : goal.returns-then-not-is_utf8
returns-then-not-is_utf8 c =
    let p = (goal.at.returns-then-not-is_utf8 c).After-is_utf8 in
    let n = five p in
    sym (c.loop-i.invariant ∙ all-next (lent c.args.texts) c.loop-i.i (rw length-map (omega arith)) ∙ rw (sym (here p) ∙ c.if-not-is_utf8.true))

pub loop-i-preserved : goal.loop-i-preserved
loop-i-preserved c =
    let p = (goal.at.loop-i-preserved c).After-is_utf8 in
    let n = five p in
    c.loop-i.invariant ∙ all-next (lent c.args.texts) c.loop-i.i (rw length-map (omega arith)) ∙ rw (sym (here p) ∙ c.if-not-is_utf8.false)
