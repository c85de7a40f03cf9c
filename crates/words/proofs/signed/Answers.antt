use mathlib.Core.Path.{sym, ap, ◌∙◌}
use Prim.Native.Nat.{ℕ, ◌%◌}
use native.Mathlib.Omega.{arith}
use borrow.Author.Rules.{rules}
use mir.Syntax.{w32}
use mir.Val.{SFits}
use mir.Facts.{to_z-of_z}
use lib.IntN.{pos}
use Rattle.words.specs.Words.{below}
use Rattle.words.proofs.Signs.{past, minus, plain, below-some}
use Rattle.words.proofs.signed.Goals as goal

pub returns-then-text-at : goal.returns-then-text-at
returns-then-text-at c = let g = c.args in sym (past g.text.now g.at c.if-text-at.true)

pub returns-then-n-eq0 : goal.returns-then-n-eq0
returns-then-n-eq0 c =
    let g = c.args in
    sym (minus g.text.now g.at (omega arith) c.if-text-at-eq45.true ∙ ap below (sym c.unsigned-n.ensures ∙ c.if-n-eq0.true))

pub returns-then-text-at-eq45 : goal.returns-then-text-at-eq45
returns-then-text-at-eq45 c =
    let g = c.args in
    let f : SFits w32 c.together.result = search rules in
    to_z-of_z f ∙ c.together.ensures ∙ sym (minus g.text.now g.at (omega arith) c.if-text-at-eq45.true ∙ ap below (sym c.unsigned-n.ensures) ∙ below-some c.unsigned-n.result c.if-n-eq0.false)

pub returns : goal.returns
returns c =
    let g = c.args in
    let f : SFits w32 c.together-2.result = search rules in
    to_z-of_z f ∙ c.together-2.ensures ∙ sym (plain g.text.now g.at (omega arith) c.if-text-at-eq45.false ∙ ap (λ (k : ℕ). pos (k % 2147483648)) (sym c.unsigned.ensures))
