use mathlib.Core.Path.{◌≡◌, sym, ap, ◌∙◌}
use mathlib.Core.List.{List}
use Prim.Native.Nat.{ℕ, ◌≤◌}
use native.Mathlib.Omega.{arith}
use lib.Dec.{leb}
use borrow.Author.Rules.{rules}
use Rattle.lists.proofs.Wrote.{rest}
use Rattle.lists.specs.Choice.{provided}
use Rattle.number.specs.Trim.{trim}
use Rattle.number.specs.Reading.{natural, unsigned, u8}
use Rattle.number.proofs.Limits.{u8-minus, u8-plain, within}
use Rattle.number.proofs.parse_u8.Goals as goal
use Rattle.number.proofs.parse_u8.Goals.{After-parse_natural}

pub returns-then-is_minus : goal.returns-then-is_minus
returns-then-is_minus c = sym (u8-minus c.args.s.now (rw (← c.trim-t.ensures) (search rules)))

-- the number that was read
number : (c : After-parse_natural) → c.parse_natural.result ≡ provided (λ k. leb k 255) (natural (unsigned (trim c.args.s.now)))
number c =
    c.parse_natural.ensures ∙ ap (λ (t : List ℕ). provided (λ k. leb k 255) (natural t)) (rest c.trim-t.result.now c.sign_len.result ∙ c.sign_len.ensures.1 ∙ ap unsigned c.trim-t.ensures)

plain : (c : After-parse_natural) → u8 c.args.s.now ≡ c.parse_natural.result
plain c = u8-plain c.args.s.now (rw (← c.trim-t.ensures) (search rules)) ∙ sym (number c)

pub returns-in_err-n : goal.returns-in_err-n
returns-in_err-n c = c.from_residual.ensures ∙ sym (plain (goal.at.returns-in_err-n c).After-parse_natural ∙ c.in_err-n.was)

pub overflow_cast-result : goal.overflow_cast-result
overflow_cast-result c =
    let h : c.in_ok-n.n ≤ 255 = within 255 c.in_ok-n.n (unsigned (trim c.args.s.now)) (sym (number (goal.at.overflow_cast-result c).After-parse_natural) ∙ c.in_ok-n.was) in
    omega arith

pub returns : goal.returns
returns c = sym (plain (goal.at.returns c).After-parse_natural ∙ c.in_ok-n.was)
