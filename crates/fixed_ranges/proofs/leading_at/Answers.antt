use Prim.Native.Nat.{◌<◌}
use mathlib.Core.Path.{◌≡◌, sym, ap, ◌∙◌}
use native.Mathlib.Omega.{arith}
use lib.ListN.{length, take, drop}
use Rattle.lists.proofs.Wrote.{rest}
use Rattle.fixed_ranges.specs.Fixed.{leading}
use Rattle.fixed_ranges.proofs.Digits.{none-there, up_to_three}
use Rattle.fixed_ranges.proofs.leading_at.Goals as goal

pub returns-in_err-rest : goal.returns-in_err-rest
returns-in_err-rest c =
    let h : length c.args.s.now < c.args.at = omega (arith, c.in_err-rest.ensures.lookup) in
    c.from_residual.ensures ∙ sym (none-there c.args.s.now c.args.at h)

pub returns : goal.returns
returns c =
    let s = c.args.s.now in
    let t = c.in_ok-rest.rest.now in
    let r : t ≡ drop c.args.at s = c.in_ok-rest.ensures.lookup.0.2 ∙ rest s c.args.at in
    c.leading.ensures ∙ rw c.min.ensures (ap leading (up_to_three t)) ∙ ap (λ u. leading (take 3 u)) r
