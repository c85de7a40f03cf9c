-- Each return is one test that fails, and the last one none.
use Rattle.std.proofs.Common.{arith}
use Rattle.std.proofs.lemmas.Grind.{common_steps}
use Rattle.layer3.specs.Header.{is_valid, header_of}
use Rattle.layer3.proofs.Parse.{no-rates, a-header}
use Rattle.layer3.proofs.parse_header.Goals as goal

pub returns-then-a-ne255 : goal.returns-then-a-ne255
unfolding header_of is_valid
returns-then-a-ne255 c = grind (arith, common_steps)

pub returns-then-n-eq0 : goal.returns-then-n-eq0
returns-then-n-eq0 c =
    let g = c.args in
    no-rates g.a g.b g.c g.d c.if-a-ne255.false c.if-b-ne15.false c.if-b-ne1.false c.if-d-eq2.false _ c.unpadded_size-n.ensures.0 c.if-n-eq0.true

pub returns : goal.returns
returns c =
    let g = c.args in
    rw c.from.ensures (a-header g.a g.b g.c g.d c.if-a-ne255.false c.if-b-ne15.false c.if-b-ne1.false c.if-d-eq2.false _ c.unpadded_size-n.ensures.0 c.if-n-eq0.false)
