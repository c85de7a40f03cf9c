-- The range of the list alone, and under N the counts by the steps put together again.
use mathlib.Core.Path.{◌≡◌, ap, ◌∙◌}
use mathlib.Core.List.{List, append-nil}
use Prim.Native.Nat.{ℕ}
use lib.IntN.{ℤ}
use mir.Syntax.{w32}
use mir.Val.{SFits}
use mir.Facts.{to_z-of_z}
use borrow.Author.Rules.{rules}
use Rattle.integers.specs.Apart.{whole_of}
use Rattle.integers.proofs.Sign.{whole_apart}
use Rattle.frame.specs.declared.GainMode.{GainMode}
use Rattle.frame.specs.declared.GainMode.TheVariants.{Saturating}
use Rattle.values.specs.declared.Range.{Range}
use Rattle.calls.specs.Calls.{adjusted, least, greatest, range_of}
use Rattle.tally.specs.declared.Tallied.{Tallied}
use Rattle.tally.specs.Tally.{count, is_low, is_high, is_lost, tally_of}
use Rattle.tally.proofs.tally.Goals as goal
use Rattle.tally.proofs.tally.Goals.{After-range_after-range}

-- nothing comes from the empty list beside it
ranged : (c : After-range_after-range) → let g = c.args in c.range_after-range.result ≡ range_of (adjusted g.mode g.steps.0 g.gains.now)
ranged c =
    let g = c.args in
    c.range_after-range.ensures ∙ ap range_of (append-nil (adjusted g.mode g.steps.0 g.gains.now))

-- what is counted under N is the tally
counted : (t : Tallied) (m : GainMode) (s : ℤ) (gs : List ℕ) → m ≡ Saturating
    → t.low ≡ count (is_low s) gs
    → t.high ≡ count (is_high s) gs
    → t.lost ≡ count (is_lost s) gs
    → t.least ≡ least (adjusted m s gs)
    → t.greatest ≡ greatest (adjusted m s gs)
    → t ≡ tally_of m s gs
counted t m s gs e low high lost lowest highest = rw (← lowest, ← highest, e, ← low, ← high, ← lost)

pub returns-in-Saturating : goal.returns-in-Saturating
returns-in-Saturating c =
    let g = c.args in
    let gs = g.gains.now in
    let h : SFits w32 g.steps.0 = search rules in
    let whole : whole_of c.take_apart.result ≡ g.steps.0 = rw (c.take_apart.ensures, to_z-of_z h, whole_apart g.steps.0) in
    let k = c.held.ensures in
    counted c.held.result g.mode g.steps.0 gs c.in-Saturating.is
    (k.0 ∙ ap (λ (z : ℤ). count (is_low z) gs) whole)
    (k.1 ∙ ap (λ (z : ℤ). count (is_high z) gs) whole)
    (k.2 ∙ ap (λ (z : ℤ). count (is_lost z) gs) whole)
    (k.3 ∙ ap (λ (x : Range). x.least) (ranged (goal.at.returns-in-Saturating c).After-range_after-range))
    (k.4 ∙ ap (λ (x : Range). x.greatest) (ranged (goal.at.returns-in-Saturating c).After-range_after-range))

pub returns-in-Wrapping : goal.returns-in-Wrapping
returns-in-Wrapping c =
    let g = c.args in
    rw (ranged (goal.at.returns-in-Wrapping c).After-range_after-range, c.in-Wrapping.is)
