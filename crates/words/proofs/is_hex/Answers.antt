use mathlib.Core.Path.{sym, ◌∙◌}
use Rattle.words.proofs.Hex.{same_byte, other_byte, none_left, same_turn, same_not, same_end}
use Rattle.words.proofs.is_hex.Goals as goal

pub returns-then-ne : goal.returns-then-ne
returns-then-ne c =
    let g = c.args in
    let l = c.loop-b in
    sym (l.invariant ∙ same_not g.text.now l.i g.bytes.now l.b-index c.loop-b-test.true (λ e. other_byte _ _ (sym c.ne.ensures ∙ c.if-ne.true) (c.hex_byte.ensures ∙ e)))

pub loop-b-preserved : goal.loop-b-preserved
loop-b-preserved c =
    let g = c.args in
    let l = c.loop-b in
    l.invariant ∙ same_turn g.text.now l.i g.bytes.now l.b-index c.loop-b-test.true (sym c.hex_byte.ensures ∙ same_byte _ _ (sym c.ne.ensures ∙ c.if-ne.false))

pub returns : goal.returns
returns c =
    let g = c.args in
    let l = c.loop-b in
    none_left c.is_none.result c.is_none.ensures ∙ sym (l.invariant ∙ same_end g.text.now l.i g.bytes.now l.b-index c.loop-b-test.false ∙ rw (← c.hex_byte-2.ensures))
