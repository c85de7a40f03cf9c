use mathlib.Core.Path.{sym, ◌∙◌}
use borrow.Author.Tests.{lt-ltb, le-ltb}
use Rattle.peaks.specs.Peak.{shift_peak}
use Rattle.peaks.proofs.Texts.{peak-below}
use Rattle.peaks.proofs.shift_peak.Goals as goal

pub returns-in_err-p : goal.returns-in_err-p
unfolding shift_peak
returns-in_err-p c = rw (sym c.parse_peak.ensures ∙ c.in_err-p.was) c.from_residual.ensures

pub new_count-n-requires : goal.new_count-n-requires
new_count-n-requires c = peak-below _ _ (sym c.parse_peak.ensures ∙ c.in_ok-p.was)

pub returns-then-n-ge100000000 : goal.returns-then-n-ge100000000
unfolding shift_peak
returns-then-n-ge100000000 c =
    rw (sym c.parse_peak.ensures ∙ c.in_ok-p.was, ← c.new_count-n.ensures.0, le-ltb _ 100000000 c.if-n-ge100000000.true)

pub returns : goal.returns
unfolding shift_peak
returns c =
    rw (sym c.parse_peak.ensures ∙ c.in_ok-p.was, ← c.new_count-n.ensures.0, lt-ltb _ 100000000 c.if-n-ge100000000.false, c.format_peak.ensures)
