use mathlib.Core.Path.{◌∙◌}
use native.Mathlib.Omega.{arith}
use lib.ListN.{length, take}
use borrow.Author.Tests.{le-leb, lt-leb}
use Rattle.lists.proofs.Wrote.{rest}
use Rattle.number.proofs.Digits.{natural-fits}
use Rattle.decibels.specs.Gain as G
use Rattle.decibels.proofs.Texts.{six}
use Rattle.decibels.proofs.fraction.Goals as goal
use Rattle.decibels.proofs.fraction.Goals.{then-s-lt6-via-then-s-lt6, then-s-lt6-via-else-s-lt6+then-not-is_unit}

pub returns-then-s-lt6 : goal.returns-then-s-lt6
unfolding G.fraction
returns-then-s-lt6 c =
    let s = c.args.s.now in
    elim c.then-s-lt6.branch [
      | then-s-lt6-via-then-s-lt6 w ↦ rw (lt-leb 6 (length s) w.if-s-lt6.true)
      | then-s-lt6-via-else-s-lt6+then-not-is_unit w ↦ rw (le-leb 6 (length s) w.if-s-lt6.false, ← rest s 6, ← w.is_unit.ensures, w.if-not-is_unit.true)
    ]

pub returns : goal.returns
unfolding G.fraction
returns c =
    let s = c.args.s.now in
    rw (le-leb 6 (length s) c.if-s-lt6.false, ← rest s 6, ← c.is_unit.ensures, c.if-not-is_unit.false)
    (c.parse_natural.ensures ∙ natural-fits (take 6 s) 6 999999 (six s) (omega arith))
