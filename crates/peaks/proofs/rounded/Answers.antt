use mathlib.Core.Path.{◌≡◌, ap, ◌∙◌}
use Prim.Native.Nat.{ℕ, ◌*◌, ◌%◌, ◌^◌, ◌≤◌}
use native.Mathlib.Omega.{arith}
use Rattle.peaks.specs.Peak.{largest}
use Rattle.peaks.specs.Halves.{within}
use Rattle.peaks.proofs.Moves.{small_power}
use Rattle.peaks.proofs.rounded.Goals as goal
use Rattle.peaks.proofs.rounded.Goals.{Start}

-- the shifted 1
power : (c : Start) → (1 * 2 ^ c.args.k % 18446744073709551616 ≡ 2 ^ c.args.k) × (2 ^ c.args.k ≤ 8)
power c = let h : 2 ^ c.args.k ≤ 8 = small_power c.args.k c.requires.1 in omega arith

pub returns : goal.returns
returns c =
    let g = c.args in
    let w : c.fourth-w.result ≡ g.v ^ 4 * 2 ^ g.k = c.fourth-w.ensures ∙ ap (λ (m : ℕ). g.v ^ 4 * m) (power (goal.at.returns c).Start).0 in
    (c.up_from.ensures.0 ∙ ap (λ (x : ℕ). largest (within g.q x) 27 0) w, c.up_from.ensures.1)

pub fourth-w-requires : goal.fourth-w-requires
fourth-w-requires c = omega (arith, power c)
