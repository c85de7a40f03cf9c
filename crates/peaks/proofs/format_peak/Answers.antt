use Prim.Native.Nat.{◌/◌, ◌%◌}
use mathlib.Core.List.{[], ◌∷◌, append_assoc}
use native.Mathlib.Omega.{arith}
use lib.ListN.{replicate}
use Rattle.lists.proofs.Wrote.{start, next}
use Rattle.decimal.specs.Writing.{places, decimal}
use Rattle.decimal.proofs.Places.{text-is}
use Rattle.peaks.specs.Peak.{format_peak}
use Rattle.peaks.proofs.format_peak.Goals as goal

pub returns : goal.returns
unfolding format_peak
returns c =
    let g = c.args in
    let w1 = next (start (replicate 32 0) 0 (omega arith)) (decimal 1 1 (g.n / 1000000)) (c.put_decimal-a.ensures.0, c.put_decimal-a.ensures.1) in
    let w2 = next w1 (46 ∷ []) c.put-b.ensures in
    let w3 = next w2 (places 6 (g.n % 1000000)) c.put_places-len.ensures in
    text-is w3 (format_peak g.n) (simp append_assoc)
