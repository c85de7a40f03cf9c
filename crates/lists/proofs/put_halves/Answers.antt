use mathlib.Core.Path.{◌≡◌, sym, ap, ◌∙◌}
use mathlib.Core.List.{List}
use Prim.Native.Nat.{ℕ, ◌≤◌, ◌+◌, ◌*◌, ◌/◌}
use native.Mathlib.Omega.{arith}
use lib.ListN.{length, take}
use lib.Seq.{take-length, length-take-le}
use Rattle.lists.specs.Write.{splice}
use Rattle.lists.proofs.Places.{length_part}
use Rattle.lists.proofs.Wrote.{Wrote, next-part}
use Rattle.lists.proofs.Halves.{halves, none, turn, whole}
use Rattle.lists.proofs.put_halves.Goals as goal
use Rattle.lists.proofs.put_halves.Goals.{In-loop-k}

-- both halves lie in the list
two : (n : ℕ) → n / 1024 * 512 + n / 1024 * 512 ≤ n
two n = omega arith

pub loop-k-init : goal.loop-k-init
loop-k-init c =
    let s = c.args.src.now in
    sym (none c.args.out.now c.args.at s (length s / 1024 * 512) c.requires (two (length s)))

-- 512 bytes of each half are left
left_over : (c : In-loop-k) → let n = length c.args.src.now in c.loop-k.k * 512 + 512 ≤ n / 1024 * 512
left_over c = omega (arith, c.loop-k-test.true)

pub put-requires : goal.put-requires
put-requires c =
    let i = c.loop-k.k * 512 in
    omega (arith, length_part i (i + 512) c.args.src.now (omega (arith, left_over (goal.at.put-requires c).In-loop-k)), left_over (goal.at.put-requires c).In-loop-k, c.loop-k.auto.out, c.requires)

pub put-requires-in-loop-k : goal.put-requires-in-loop-k
put-requires-in-loop-k c =
    let s = c.args.src.now in
    let j = length s / 1024 * 512 + c.loop-k.k * 512 in
    omega (arith, length_part j (j + 512) s (omega (arith, left_over (goal.at.put-requires-in-loop-k c).In-loop-k)), left_over (goal.at.put-requires-in-loop-k c).In-loop-k, c.put.auto.out, c.loop-k.auto.out, c.requires)

pub loop-k-preserved : goal.loop-k-preserved
loop-k-preserved c =
    let s = c.args.src.now in
    let h = length s / 1024 * 512 in
    let i = c.loop-k.k * 512 in
    let next : i + 512 ≡ (c.loop-k.k + 1) * 512 = omega arith in
    turn c.args.out.now c.args.at s h c.requires (two (length s)) i 512 (left_over (goal.at.loop-k-preserved c).In-loop-k) c.loop-k.invariant c.put.ensures.1 c.put-in-loop-k.ensures.1 ∙ ap (halves c.args.out.now c.args.at s h) next

pub put-requires-2 : goal.put-requires-2
put-requires-2 c =
    let s = c.args.src.now in
    let h = length s / 1024 * 512 in
    omega (arith, length_part (h + h) (length s) s (omega arith), two (length s), c.loop-k.auto.out, c.requires)

pub returns : goal.returns
returns c =
    let g = c.args in
    let s = g.src.now in
    let h = length s / 1024 * 512 in
    let all : c.loop-k.k * 512 ≡ h = omega arith in
    let written = c.loop-k.invariant ∙ ap (halves g.out.now g.at s h) all ∙ whole g.out.now g.at s h c.requires (two (length s)) in
    let both : Wrote g.out.now g.at (take (h + h) s) (g.at + (h + h)) c.loop-k.out = record { room = omega (arith, c.requires); ends = omega (arith, length-take-le (h + h) s (two (length s))); is = written } in
    let w = next-part s (h + h) (length s) (two (length s)) both c.put-2.ensures in
    (w.ends ∙ ap (λ (x : List ℕ). g.at + length x) (take-length s), w.is ∙ ap (splice g.out.now g.at) (take-length s))
