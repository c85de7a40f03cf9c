use Prim.Native.Nat.{◌/◌, ◌%◌}
use mathlib.Core.List.{[], ◌∷◌, append_assoc}
use native.Mathlib.Omega.{arith}
use lib.ListN.{replicate}
use Rattle.lists.specs.Bytes.{ascii}
use Rattle.lists.proofs.Wrote.{start, next}
use Rattle.decimal.specs.Writing.{places, decimal, sign_byte}
use Rattle.decimal.proofs.Places.{length-places, text-is}
use Rattle.decibels.specs.Gain.{format_gain}
use Rattle.decibels.proofs.format_gain.Goals as goal

pub put-len-requires : goal.put-len-requires
put-len-requires c =
    let g = c.args.a in
    omega (
      arith,
      c.put_places-s.ensures.0,
      c.put_places-s.auto.out,
      length-places 6 (g.1 % 1000000),
      c.put-r.ensures.0,
      c.put-r.auto.out,
      c.put_decimal-q.ensures.2,
      c.put_decimal-q.auto.out,
      c.put-p.ensures.0,
      c.put-p.auto.out,
    )

pub returns : goal.returns
unfolding format_gain
returns c =
    let g = c.args.a in
    let e = rw c.sign_byte.ensures at c.put-p.ensures in
    let w1 = next (start (replicate 32 0) 0 (omega arith)) (sign_byte g.0 ∷ []) e in
    let w2 = next w1 (decimal 1 9 (g.1 / 1000000)) (c.put_decimal-q.ensures.0, c.put_decimal-q.ensures.1) in
    let w3 = next w2 (46 ∷ []) c.put-r.ensures in
    let w4 = next w3 (places 6 (g.1 % 1000000)) c.put_places-s.ensures in
    let w5 = next w4 (ascii " dB") c.put-len.ensures in
    text-is w5 (format_gain g) (simp append_assoc)
