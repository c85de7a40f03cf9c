use Prim.Native.Nat.{ℕ, ◌+◌, ◌-◌, ◌*◌}
use native.Mathlib.Omega.{arith}
use mathlib.Core.Path.{sym, ◌∙◌}
use lib.Dec.{ltb}
use lib.ListN.{length}
use Rattle.std.proofs.Common.{rules, tests}
use Rattle.std.proofs.lemmas.Iterator.{YieldsList-from_slice}
use Rattle.std.proofs.lemmas.Iterator.Search.{all_from_yields_List}
use Rattle.lists.proofs.All.{all-is, block-next, block-not, all-at, last-not, last-all}
use Rattle.utf8.proofs.is_plain.Goals as goal

pub returns-then-s-lt16 : goal.returns-then-s-lt16
returns-then-s-lt16 c =
    let s = c.args.s.now in
    all_from_yields_List (λ (b : ℕ). ltb b 0x80) _ _ c.all.result c.all.ensures.ran (YieldsList-from_slice s cc) (λ x b q k. search (rules, tests)) ∙ all-is (λ (b : ℕ). ltb b 0x80) s

pub returns-then-not-plain : goal.returns-then-not-plain
returns-then-not-plain c =
    let s = c.args.s.now in
    sym (last-not (λ (b : ℕ). ltb b 0x80) s 16 (length s - 16) (omega arith) (sym c.plain.ensures ∙ c.if-not-plain.true))

pub returns-then-not-plain-2 : goal.returns-then-not-plain-2
returns-then-not-plain-2 c =
    let s = c.args.s.now in
    sym (block-not (λ (b : ℕ). ltb b 0x80) s (c.loop-k.k * 16) c.loop-k.invariant 16 (sym c.plain-in-loop-k.ensures ∙ c.if-not-plain-2.true))

pub loop-k-preserved : goal.loop-k-preserved
loop-k-preserved c =
    let s = c.args.s.now in
    let n = c.loop-k.k * 16 in
    all-at (λ (b : ℕ). ltb b 0x80) s (n + 16) (block-next (λ (b : ℕ). ltb b 0x80) s n c.loop-k.invariant 16 (sym c.plain-in-loop-k.ensures ∙ c.if-not-plain-2.false)) ((c.loop-k.k + 1) * 16) (omega arith)

pub returns : goal.returns
returns c =
    let s = c.args.s.now in
    sym (c.loop-k.invariant ∙ last-all (λ (b : ℕ). ltb b 0x80) s 16 (length s - 16) (omega arith) (sym c.plain.ensures ∙ c.if-not-plain.false) (c.loop-k.k * 16) (omega arith))
