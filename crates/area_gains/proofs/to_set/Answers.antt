use mathlib.Core.Path.{◌≡◌, refl, sym, ap, ◌∙◌}
use mathlib.Core.Bool.{false}
use mathlib.Core.List.{[]}
use native.Mathlib.Omega.{arith}
use borrow.Author.Rules.{rules}
use lib.ListN.{length, length-map, length-set}
use lib.Dec.{ltb}
use Rattle.std.proofs.lemmas.List.{ext_get_or, get_or-map}
use Rattle.area_gains.specs.Gains.{marks}
use Rattle.area_gains.proofs.Rest.{lent, lent-at, marked-here}
use Rattle.area_gains.proofs.to_set.Goals as goal
use Rattle.area_gains.proofs.to_set.Goals.{Start}

five : (c : Start) → length c.args.texts ≡ 5
five c = search rules

pub returns : goal.returns
returns c =
    let n = five (goal.at.returns c).Start in
    let l : length (lent c.args.texts) ≡ 5 = rw length-map n in
    let (q, at) = c.loop-i.invariant in
    ext_get_or false c.loop-i.marks (marks (lent c.args.texts)) (rw length-map (omega arith))
    (λ k h. at k (omega arith) ∙ sym (get_or-map (λ v. ltb 0 (length v)) (lent c.args.texts) k [] false (omega arith)))

pub loop-i-preserved : goal.loop-i-preserved
loop-i-preserved c =
    let n = five (goal.at.loop-i-preserved c).Start in
    let (q, at) = c.loop-i.invariant in
    let e = lent-at c.args.texts (lent c.args.texts) c.loop-i.i (record { ref_ptr = (0, 0); now = [] }) refl (omega arith) in
    (rw length-set q, λ k h. marked-here c.loop-i.marks (lent c.args.texts) c.loop-i.i k (omega arith) h at (ap (λ v. ltb 0 (length v)) e))
