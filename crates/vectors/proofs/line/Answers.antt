use Rattle.std.proofs.Common.{◌∙◌, zero-add, arith}
use Rattle.lists.specs.Bytes.{ascii}
use Rattle.lists.proofs.Wrote.{start, next, from_start}
use Rattle.decimal.specs.Writing.{decimal}
use Rattle.vectors.proofs.line.Goals as goal

pub returns : goal.returns
returns c =
    let g = c.args in
    let w1 = next (start g.out.now 0 (omega arith)) (decimal 1 9 g.r.answers) (c.put_decimal-a.ensures.0, c.put_decimal-a.ensures.1) in
    let w2 = next w1 (ascii " answers, ") c.put-b.ensures in
    let w3 = next w2 (decimal 1 9 g.r.differ) (c.put_decimal-c.ensures.0, c.put_decimal-c.ensures.1) in
    let w4 = next w3 (ascii " differ\n") c.put.ensures in
    (w4.ends ∙ zero-add _, from_start w4, omega (arith, c.put.ensures.0, c.put-b.ensures.0, c.put_decimal-c.ensures.2, c.put_decimal-a.ensures.2))
