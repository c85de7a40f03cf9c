use mathlib.Core.Bool.{true, false}
use mathlib.Core.List.{[], ◌∷◌}
use native.Mathlib.Omega.{arith}
use Rattle.lists.proofs.Wrote.{start, next, done}
use Rattle.listing.specs.Listing.{line, printed_all}
use Rattle.listing.proofs.Printing.{all_short}
use Rattle.listing.proofs.put_line.Goals as goal

pub put-b-requires : goal.put-b-requires
put-b-requires c =
    let p = c.put_text-a in
    omega (arith, p.ensures.0, p.auto.out, all_short true c.args.key.now, c.requires)

pub put_text-c-requires : goal.put_text-c-requires
put_text-c-requires c =
    let q = c.put-b in
    let p = c.put_text-a in
    omega (arith, q.ensures.0, q.auto.out, p.ensures.0, p.auto.out, all_short true c.args.key.now, c.requires)

pub put-requires : goal.put-requires
put-requires c =
    let r = c.put_text-c in
    let q = c.put-b in
    let p = c.put_text-a in
    omega (arith, r.ensures.0, r.auto.out, q.ensures.0, q.auto.out, p.ensures.0, p.auto.out, all_short true c.args.key.now, all_short false c.args.value.now, c.requires)

pub returns : goal.returns
unfolding line
returns c =
    let g = c.args in
    let w1 = next (start g.out.now g.at (omega (arith, c.requires))) (printed_all true g.key.now) c.put_text-a.ensures in
    let w2 = next w1 (0x3D ∷ []) c.put-b.ensures in
    let w3 = next w2 (printed_all false g.value.now) c.put_text-c.ensures in
    done (next w3 (0x0A ∷ []) c.put.ensures)
