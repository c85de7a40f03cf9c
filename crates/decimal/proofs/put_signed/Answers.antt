use mathlib.Core.Path.{◌≡◌, refl, ap, ◌∙◌}
use mathlib.Core.List.{[], ◌∷◌}
use Prim.Native.Nat.{ℕ, ◌+◌}
use native.Mathlib.Omega.{arith}
use mir.Facts.{to_z-of_z}
use lib.ListN.{set, length-set}
use lib.IntN.{nat_abs}
use Rattle.lists.specs.Write.{splice}
use Rattle.lists.proofs.Wrote.{start, next}
use Rattle.decimal.specs.Writing.{signed, decimal, sign_byte, is_negative}
use Rattle.decimal.proofs.Lists.{put_one}
use Rattle.decimal.proofs.Places.{negative}
use Rattle.decimal.proofs.put_signed.Goals as goal

pub put_decimal-requires : goal.put_decimal-requires
put_decimal-requires c = (simp length-set (omega arith), omega arith, refl)

pub returns : goal.returns
unfolding signed
returns c =
    let n = c.args.n in
    let sign : c.sign_byte.result ≡ sign_byte (is_negative n) = c.sign_byte.ensures ∙ ap sign_byte (rw (to_z-of_z c.ranges.n) (negative n)) in
    let size : c.unsigned_abs.result ≡ nat_abs n = rw (to_z-of_z c.ranges.n) at c.unsigned_abs.ensures.value in
    let o = c.args.out.now in
    let at = c.args.at in
    let x = c.sign_byte.result in
    let one : set o at x ≡ splice o at (sign_byte (is_negative n) ∷ []) = put_one o at x (omega arith) ∙ ap (λ (y : ℕ). splice o at (y ∷ [])) sign in
    let w1 = next {ys = set o at x} {r = at + 1} (start o at (omega arith)) (sign_byte (is_negative n) ∷ []) (refl, one) in
    let d = c.put_decimal.ensures in
    let w2 = next w1 (decimal 3 7 c.unsigned_abs.result) (d.0, d.1) in
    rw (← size) (w2.ends, w2.is, omega (arith, d.2))
