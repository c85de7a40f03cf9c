use borrow.Author.Rules.{rules}
use Prim.Native.Nat.{◌+◌, ◌-◌, ◌≤◌}
use Rattle.std.specs.Prelude.{Some}
use mathlib.Core.Path.{◌≡◌, sym, ap, ◌∙◌}
use native.Mathlib.Omega.{arith}
use lib.ListN.{length, take, drop}
use Rattle.number.specs.Fields.{before, behind}
use Rattle.number.specs.Reading.{u8}
use Rattle.number.proofs.Cuts.{front-is, front-size, no-back, within-back, back_is}
use Rattle.values.specs.Range.{parse_range}
use Rattle.values.proofs.parse_range.Goals as goal
use Rattle.values.proofs.parse_range.Goals.{Else-comma-text, After-parse_u8}

pub returns-then-comma-text : goal.returns-then-comma-text
unfolding parse_range
returns-then-comma-text c =
    let s = c.args.text.now in
    rw (no-back 44 s c.find_byte-comma.result c.find_byte-comma.ensures c.if-comma-text.true)

pub slice_bounds-parse_u8-end : goal.slice_bounds-parse_u8-end
slice_bounds-parse_u8-end c = front-size 44 c.args.text.now c.find_byte-comma.result c.find_byte-comma.ensures

-- what follows the comma is a part of the text
pub slice_bounds-parse_u8-count : goal.slice_bounds-parse_u8-count
slice_bounds-parse_u8-count c = within-back 44 c.args.text.now c.find_byte-comma.result c.find_byte-comma.ensures c.if-comma-text.false

pub slice_bounds-parse_u8-start : goal.slice_bounds-parse_u8-start
slice_bounds-parse_u8-start c =
    let h : c.find_byte-comma.result + 1 ≤ length c.args.text.now = within-back 44 c.args.text.now c.find_byte-comma.result c.find_byte-comma.ensures c.if-comma-text.false in
    search rules

pub overflow_add-comma : goal.overflow_add-comma
overflow_add-comma c = omega (arith, within-back 44 c.args.text.now c.find_byte-comma.result c.find_byte-comma.ensures c.if-comma-text.false)

-- the comma cuts the text in two
cut_at : (c : Else-comma-text) → behind 44 c.args.text.now
    ≡ Some (take (length c.args.text.now - (c.find_byte-comma.result + 1)) (drop (c.find_byte-comma.result + 1) c.args.text.now))
cut_at c = back_is 44 c.args.text.now c.find_byte-comma.result c.find_byte-comma.ensures c.if-comma-text.false

front : (c : After-parse_u8) → c.parse_u8.result ≡ u8 (before 44 c.args.text.now)
front c = c.parse_u8.ensures ∙ ap u8 (front-is 44 c.args.text.now c.find_byte-comma.result c.find_byte-comma.ensures)

pub returns-in_err-least : goal.returns-in_err-least
unfolding parse_range
returns-in_err-least c =
    let i = (goal.at.returns-in_err-least c).Else-comma-text in
    rw (cut_at i, sym (front (goal.at.returns-in_err-least c).After-parse_u8) ∙ c.in_err-least.was) c.from_residual.ensures

pub returns-in_err-greatest : goal.returns-in_err-greatest
unfolding parse_range
returns-in_err-greatest c =
    let i = (goal.at.returns-in_err-greatest c).Else-comma-text in
    rw (
      cut_at i,
      sym (front (goal.at.returns-in_err-greatest c).After-parse_u8) ∙ c.in_ok-least.was,
      sym c.parse_u8-2.ensures ∙ c.in_err-greatest.was,
    )
    c.from_residual-in_err-greatest.ensures

pub returns : goal.returns
unfolding parse_range
returns c =
    let i = (goal.at.returns c).Else-comma-text in
    rw (
      cut_at i,
      sym (front (goal.at.returns c).After-parse_u8) ∙ c.in_ok-least.was,
      sym c.parse_u8-2.ensures ∙ c.in_ok-greatest.was,
    )
