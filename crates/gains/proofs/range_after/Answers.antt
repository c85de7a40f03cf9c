use mathlib.Core.Path.{◌≡◌}
use mathlib.Core.List.{◌++◌}
use native.Mathlib.Omega.{arith}
use Rattle.calls.specs.Calls.{adjusted, least, greatest}
use Rattle.gains.proofs.Ranges.{least-small, least-append, greatest-append}
use Rattle.gains.proofs.range_after.Goals as goal

pub returns : goal.returns
returns c =
    let g = c.args in
    let l = adjusted g.moves.mode g.moves.left.0 g.left.now in
    let r = adjusted g.moves.mode g.moves.right.0 g.right.now in
    let first = c.widened.ensures in
    let second = c.widened-2.ensures in
    let low : c.widened-2.result.least ≡ least (l ++ r) = omega (arith, second.0, first.0, least-append l r, least-small l) in
    let high : c.widened-2.result.greatest ≡ greatest (l ++ r) = omega (arith, second.1, first.1, greatest-append l r) in
    rw (← low, ← high)
