-- The texts are written behind a gap of eight bytes, then the flags and the length into it.
use mathlib.Core.Path.{◌≡◌, ap, ◌∙◌}
use mathlib.Core.List.{List, [], ◌∷◌, ◌++◌, append_assoc}
use Prim.Native.Nat.{ℕ, ◌+◌, ◌-◌, ◌≤◌}
use native.Mathlib.Omega.{arith}
use borrow.Author.Rules.{rules}
use lib.ListN.{length}
use Rattle.lists.specs.Le.{u32le}
use Rattle.lists.specs.Write.{splice}
use Rattle.lists.proofs.Wrote.{start, next, ahead}
use Rattle.lossy.specs.Lossy.{lossy}
use Rattle.items.specs.Items.{item_bytes}
use Rattle.items.proofs.Area.{length-item}
use Rattle.ape.specs.Tag.{read_value, converted}
use Rattle.ape.proofs.Reading.{length-value}
use Rattle.ape.proofs.put_item.Goals as goal

pub lossy_put-k-requires : goal.lossy_put-k-requires
lossy_put-k-requires c =
    (c.requires.0, omega (arith, c.requires.2, length-item (converted c.args.flags c.args.key.now c.args.value.now)))

pub put-z-requires : goal.put-z-requires
put-z-requires c =
    omega (arith, c.requires.2, length-item (converted c.args.flags c.args.key.now c.args.value.now), c.lossy_put-k.ensures.0, c.lossy_put-k.auto.out)

pub put_value-v-requires : goal.put_value-v-requires
put_value-v-requires c =
    (c.requires.0, omega (arith, c.requires.2, length-item (converted c.args.flags c.args.key.now c.args.value.now), c.lossy_put-k.ensures.0, c.put-z.ensures.0, c.lossy_put-k.auto.out, c.put-z.auto.out))

pub put_u32_le-requires : goal.put_u32_le-requires
put_u32_le-requires c =
    omega (arith, c.requires.2, length-item (converted c.args.flags c.args.key.now c.args.value.now), c.lossy_put-k.auto.out, c.put-z.auto.out, c.put_value-v.auto.out)

pub overflow_cast-v : goal.overflow_cast-v
overflow_cast-v c = omega (arith, c.requires.1, c.put_value-v.ensures.0, length-value c.args.flags c.args.value.now)

pub put_u32_le-requires-2 : goal.put_u32_le-requires-2
put_u32_le-requires-2 c =
    omega (arith, c.requires.2, length-item (converted c.args.flags c.args.key.now c.args.value.now), c.lossy_put-k.auto.out, c.put-z.auto.out, c.put_value-v.auto.out, c.put_u32_le.auto.out)

pub returns : goal.returns
unfolding item_bytes
returns c =
    let g = c.args in
    let k = lossy g.key.now in
    let v = read_value g.flags g.value.now in
    let room : g.at + 8 ≤ length g.out.now = omega (arith, c.requires.2, length-item (converted g.flags g.key.now g.value.now)) in
    let w1 = next (start g.out.now (g.at + 8) room) k c.lossy_put-k.ensures in
    let w2 = next w1 (0 ∷ []) c.put-z.ensures in
    let w3 = next w2 v c.put_value-v.ensures in
    let w4 = ahead {at = g.at + 4} w3 (u32le g.flags) (omega arith) c.put_u32_le.ensures.1 in
    let n : c.put_value-v.result - c.put-z.result ≡ length v = omega (arith, c.put_value-v.ensures.0) in
    let w5 = ahead {at = g.at} w4 (u32le (c.put_value-v.result - c.put-z.result)) (omega arith) c.put_u32_le-2.ensures.1 in
    let same : u32le (c.put_value-v.result - c.put-z.result) ++ (u32le g.flags ++ ((([] ++ k) ++ (0 ∷ [])) ++ v)) ≡ item_bytes (converted g.flags g.key.now g.value.now) = rw n (simp append_assoc) in
    (w5.ends ∙ ap (λ (w : List ℕ). g.at + length w) same, w5.is ∙ ap (splice g.out.now g.at) same)
