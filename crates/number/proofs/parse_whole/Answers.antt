use mathlib.Core.Path.{◌≡◌, sym, ap, ◌∙◌}
use mathlib.Core.List.{List}
use Prim.Native.Nat.{ℕ, ◌≤◌}
use lib.IntN.{ℤ}
use native.Mathlib.Omega.{arith}
use mir.Syntax.{w64}
use mir.Val.{to_z}
use lib.Dec.{leb}
use Rattle.std.specs.Prelude.{Some}
use Rattle.std.proofs.lemmas.Int.{ints}
use Rattle.lists.proofs.Wrote.{rest}
use Rattle.lists.specs.Choice.{provided}
use Rattle.number.specs.Reading.{natural, unsigned, with_sign, is_minus, is_i32}
use Rattle.number.proofs.Limits.{i32-none, i32-value, i32-fits, within}
use Rattle.number.proofs.parse_whole.Goals as goal
use Rattle.number.proofs.parse_whole.Goals.{then-is_minus, else-is_minus, After-parse_natural}

-- the size that was read
size : (c : After-parse_natural) → c.parse_natural.result ≡ provided (λ k. leb k 2147483648) (natural (unsigned c.args.s.now))
size c =
    let s = c.args.s.now in
    c.parse_natural.ensures ∙ ap (λ (t : List ℕ). provided (λ k. leb k 2147483648) (natural t)) (rest s c.sign_len.result ∙ c.sign_len.ensures.1)

pub returns-in_err-parse_natural : goal.returns-in_err-parse_natural
returns-in_err-parse_natural c =
    c.from_residual.ensures ∙ sym (i32-none c.args.s.now (sym (size (goal.at.returns-in_err-parse_natural c).After-parse_natural) ∙ c.in_err-parse_natural.was))

pub returns : goal.returns
returns c =
    let s = c.args.s.now in
    let m = c.in_ok-parse_natural.field-0 in
    let e : provided (λ k. leb k 2147483648) (natural (unsigned s)) ≡ Some m = sym (size (goal.at.returns c).After-parse_natural) ∙ c.in_ok-parse_natural.was in
    let b : m ≤ 2147483648 = within 2147483648 m (unsigned s) e in
    let z : to_z w64 c.if-is_minus.try_from-bits ≡ with_sign (is_minus s) m = elim c.if-is_minus.branch [
      | then-is_minus w ↦ rw (sym c.is_minus.ensures ∙ w.if-is_minus.true) (omega (arith, ints))
      | else-is_minus w ↦ rw (sym c.is_minus.ensures ∙ w.if-is_minus.false) (omega (arith, ints))
    ] in
    c.ok.ensures.value ∙ i32-fits c.try_from.result (to_z w64 c.if-is_minus.try_from-bits) c.try_from.ensures
    ∙ ap (λ (y : ℤ). provided is_i32 (Some y)) z ∙ sym (i32-value s m e)
