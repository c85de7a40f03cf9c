use mathlib.Core.List.{[], ◌∷◌, append_assoc}
use native.Mathlib.Omega.{arith}
use lib.ListN.{replicate}
use Rattle.lists.proofs.Wrote.{start, next}
use Rattle.decimal.specs.Writing.{places}
use Rattle.decimal.proofs.Places.{length-places, text-is}
use Rattle.values.specs.Range.{format_range}
use Rattle.values.proofs.format_minmax.Goals as goal

pub put-b-requires : goal.put-b-requires
put-b-requires c =
    omega (arith, c.put_places-a.ensures.0, c.put_places-a.auto.out, length-places 3 c.from.result)

pub put_places-len-requires : goal.put_places-len-requires
put_places-len-requires c =
    omega (arith, c.put-b.ensures.0, c.put-b.auto.out, c.put_places-a.ensures.0, c.put_places-a.auto.out, length-places 3 c.from.result)

pub returns : goal.returns
unfolding format_range
returns c =
    let g = c.args in
    let w1 = next (start (replicate 32 0) 0 (omega arith)) (places 3 g.least) (rw c.from.ensures at c.put_places-a.ensures) in
    let w2 = next w1 (44 ∷ []) c.put-b.ensures in
    let w3 = next w2 (places 3 g.greatest) (rw c.from-2.ensures at c.put_places-len.ensures) in
    text-is w3 (format_range (record { least = g.least; greatest = g.greatest })) (simp append_assoc)
