use Prim.Native.Nat.{ℕ, ◌+◌, ◌-◌, ◌≤◌}
use mathlib.Core.Bool.{true}
use Rattle.std.specs.Prelude.{Some}
use mathlib.Core.Path.{◌≡◌, sym, ◌∙◌}
use mathlib.Core.List.{List}
use native.Mathlib.Omega.{arith}
use lib.ListN.{length, take, drop}
use borrow.Author.Rules.{rules}
use borrow.Author.Tests.{le-leb, lt-leb}
use lib.Dec.{leb}
use Rattle.number.specs.Fields.{before, behind}
use Rattle.number.specs.Reading.{natural}
use Rattle.number.proofs.Digits.{natural-fits}
use Rattle.number.proofs.Cuts.{front-is, front-size, length_front, no-back, within-back, back_is}
use Rattle.decibels.specs.Gain.{millionths}
use Rattle.decibels.proofs.parse_millionths.Goals as goal
use Rattle.decibels.proofs.parse_millionths.Goals.{Else-e-gt4, After-parse_natural}

pub returns-then-e-s : goal.returns-then-e-s
unfolding millionths
returns-then-e-s c = rw (no-back 46 c.args.s.now c.find_byte-e.result c.find_byte-e.ensures c.if-e-s.true)

pub returns-then-e-gt4 : goal.returns-then-e-gt4
unfolding millionths
returns-then-e-gt4 c =
    let s = c.args.s.now in
    let e = c.find_byte-e.result in
    let q = c.find_byte-e.ensures in
    rw (back_is 46 s e q c.if-e-s.false, lt-leb (length (before 46 s)) 4 (omega (arith, length_front 46 s e q)))

pub slice_bounds-parse_natural-end : goal.slice_bounds-parse_natural-end
slice_bounds-parse_natural-end c = front-size 46 c.args.s.now c.find_byte-e.result c.find_byte-e.ensures

-- what follows the point is a part of the text
pub slice_bounds-fraction-count : goal.slice_bounds-fraction-count
slice_bounds-fraction-count c = within-back 46 c.args.s.now c.find_byte-e.result c.find_byte-e.ensures c.if-e-s.false

pub slice_bounds-fraction-start : goal.slice_bounds-fraction-start
slice_bounds-fraction-start c =
    let h : c.find_byte-e.result + 1 ≤ length c.args.s.now = within-back 46 c.args.s.now c.find_byte-e.result c.find_byte-e.ensures c.if-e-s.false in
    search rules

-- up to four bytes stand before the point
module _ (c : Else-e-gt4) where
  abbrev text : List ℕ
  text = c.args.s.now

  abbrev place : ℕ
  place = c.find_byte-e.result

  cut_at : behind 46 text ≡ Some (take (length text - (place + 1)) (drop (place + 1) text))
  cut_at = back_is 46 text place c.find_byte-e.ensures c.if-e-s.false

  short : leb (length (before 46 text)) 4 ≡ true
  short = le-leb (length (before 46 text)) 4 (omega (arith, length_front 46 text place c.find_byte-e.ensures))

-- the digits before the point, as the code reads them: four stay within its limit
four : (c : After-parse_natural) → c.parse_natural.result ≡ natural (before 46 c.args.s.now)
four c =
    let s = c.args.s.now in
    let e = c.find_byte-e.result in
    let q = c.find_byte-e.ensures in
    c.parse_natural.ensures ∙ rw (front-is 46 s e q) (natural-fits (before 46 s) 4 9999 (omega (arith, length_front 46 s e q)) (omega arith))

pub returns-in_err-a : goal.returns-in_err-a
unfolding millionths
returns-in_err-a c =
    let j = (goal.at.returns-in_err-a c).Else-e-gt4 in
    rw (cut_at j, short j, sym (four (goal.at.returns-in_err-a c).After-parse_natural) ∙ c.in_err-a.was) c.from_residual.ensures

pub returns-in_err-b : goal.returns-in_err-b
unfolding millionths
returns-in_err-b c =
    let j = (goal.at.returns-in_err-b c).Else-e-gt4 in
    rw (cut_at j, short j, sym (four (goal.at.returns-in_err-b c).After-parse_natural) ∙ c.in_ok-a.was, sym c.fraction.ensures ∙ c.in_err-b.was) c.from_residual-in_err-b.ensures

pub returns : goal.returns
unfolding millionths
returns c =
    let j = (goal.at.returns c).Else-e-gt4 in
    rw (cut_at j, short j, sym (four (goal.at.returns c).After-parse_natural) ∙ c.in_ok-a.was, sym c.fraction.ensures ∙ c.in_ok-b.was, c.from.ensures, c.from-2.ensures)
