-- Both conversions have one contract.
use mathlib.Core.Path.{◌≡◌, sym, ap, ◌∙◌}
use lib.ListN.{length}
use Rattle.singly.proofs.Same.{Converts, same-answers, same-replies, same_bytes, other-bytes}
use Rattle.singly.proofs.both_same.Goals as goal

pub returns-then-eq : goal.returns-then-eq
returns-then-eq c =
    let g = c.args in
    let blocks : Converts g.s.now g.blocks.now _ _ = record { answers = c.lossy_into-x.ensures.0; leaves = c.lossy_into-x.ensures.1; long = c.lossy_into-x.auto.out } in
    let singly : Converts g.s.now g.singly.now _ _ = record { answers = c.lossy_into-y.ensures.0; leaves = c.lossy_into-y.ensures.1; long = c.lossy_into-y.auto.out } in
    (λ e. c.equal.ensures ∙ same_bytes blocks singly e, c.equal.ensures, c.lossy_into-x.ensures.1, c.lossy_into-y.ensures.1)

pub returns-else-eq : goal.returns-else-eq
returns-else-eq c =
    let g = c.args in
    let blocks : Converts g.s.now g.blocks.now _ _ = record { answers = c.lossy_into-x.ensures.0; leaves = c.lossy_into-x.ensures.1; long = c.lossy_into-x.auto.out } in
    let singly : Converts g.s.now g.singly.now _ _ = record { answers = c.lossy_into-y.ensures.0; leaves = c.lossy_into-y.ensures.1; long = c.lossy_into-y.auto.out } in
    let other = c.if-eq.false in
    let alike = λ (e : c.lossy_into-x.result ≡ c.lossy_into-y.result). c.eq.ensures ∙ same-answers _ _ e in (
      λ e. alike (same-replies blocks singly (ap length e)),
      other ∙ sym (other-bytes blocks singly other alike),
      c.lossy_into-x.ensures.1,
      c.lossy_into-y.ensures.1,
    )
