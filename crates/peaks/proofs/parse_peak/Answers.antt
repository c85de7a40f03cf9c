use Prim.Native.Nat.{ℕ, ◌+◌, ◌*◌}
use Rattle.std.specs.Prelude.{None, option_map}
use mathlib.Core.Path.{◌≡◌, sym, ◌∙◌}
use mathlib.Core.List.{List}
use native.Mathlib.Omega.{arith}
use lib.Dec.{leb}
use lib.ListN.{take}
use Rattle.lists.specs.Choice.{found, provided}
use Rattle.number.specs.Fields.{before}
use Rattle.number.specs.Reading.{natural}
use Rattle.number.proofs.Limits.{within}
use Rattle.number.proofs.Cuts.{within_text}
use Rattle.peaks.specs.Peak.{parse_peak}
use Rattle.peaks.proofs.Texts.{no-point, long-front, other-tail, tail, formed, front_read, tail-read}
use Rattle.peaks.proofs.parse_peak.Goals as goal
use Rattle.peaks.proofs.parse_peak.Goals.{Else-s-e-ne7}

pub returns-then-e-s : goal.returns-then-e-s
returns-then-e-s c = sym (no-point c.args.s.now c.find_byte-e.result c.find_byte-e.ensures c.if-e-s.true)

pub returns-then-e-gt2 : goal.returns-then-e-gt2
returns-then-e-gt2 c = sym (long-front c.args.s.now c.find_byte-e.result c.find_byte-e.ensures c.if-e-s.false c.if-e-gt2.true)

pub overflow_sub-s : goal.overflow_sub-s
overflow_sub-s c = within_text 46 c.args.s.now c.find_byte-e.result c.find_byte-e.ensures

pub returns-then-s-e-ne7 : goal.returns-then-s-e-ne7
returns-then-s-e-ne7 c = sym (other-tail c.args.s.now c.find_byte-e.result c.find_byte-e.ensures c.if-e-s.false c.if-s-e-ne7.true)

-- the text has the form, if both parts are digits
module _ (c : Else-s-e-ne7) where
  abbrev text : List ℕ
  text = c.args.s.now

  abbrev place : ℕ
  place = c.find_byte-e.result

  abbrev last : List ℕ
  last = tail text place c.find_byte-e.ensures c.if-e-s.false

  form : parse_peak text ≡ found (natural (before 46 text)) None (λ a. option_map (λ b. a * 1000000 + b) (natural last))
  form = formed text place c.find_byte-e.ensures c.if-e-s.false c.if-e-gt2.false c.if-s-e-ne7.false

  -- the digits before the point are a number, or not
  front : provided (λ n. leb n 99) (natural (take place text)) ≡ natural (before 46 text)
  front = front_read text place c.find_byte-e.ensures c.if-e-s.false c.if-e-gt2.false c.if-s-e-ne7.false

  -- and so are those behind it
  back : provided (λ n. leb n 999999) (natural last) ≡ natural last
  back = tail-read text place c.find_byte-e.ensures c.if-e-s.false c.if-e-gt2.false c.if-s-e-ne7.false

pub returns-in_err-a : goal.returns-in_err-a
returns-in_err-a c =
    let j = (goal.at.returns-in_err-a c).Else-s-e-ne7 in
    rw (form j, sym (front j) ∙ sym c.parse_natural.ensures ∙ c.in_err-a.was) c.from_residual.ensures

pub returns-in_err-b : goal.returns-in_err-b
returns-in_err-b c =
    let j = (goal.at.returns-in_err-b c).Else-s-e-ne7 in
    rw (
      form j,
      sym (front j) ∙ sym c.parse_natural.ensures ∙ c.in_ok-a.was,
      sym (back j) ∙ sym c.parse_natural-2.ensures ∙ c.in_err-b.was,
    )
    c.from_residual-in_err-b.ensures

pub returns : goal.returns
returns c =
    let j = (goal.at.returns c).Else-s-e-ne7 in
    rw (
      form j,
      sym (front j) ∙ sym c.parse_natural.ensures ∙ c.in_ok-a.was,
      sym (back j) ∙ sym c.parse_natural-2.ensures ∙ c.in_ok-b.was,
    )

-- the number before the point has at most two digits
pub overflow_mul-result : goal.overflow_mul-result
overflow_mul-result c = omega (arith, within 99 c.in_ok-a.a (take c.find_byte-e.result c.args.s.now) (sym c.parse_natural.ensures ∙ c.in_ok-a.was))

-- and the one behind it six
pub overflow_add-result : goal.overflow_add-result
overflow_add-result c =
    let j = (goal.at.overflow_add-result c).Else-s-e-ne7 in
    omega (
      arith,
      within 99 c.in_ok-a.a (take c.find_byte-e.result c.args.s.now) (sym c.parse_natural.ensures ∙ c.in_ok-a.was),
      within 999999 c.in_ok-b.b (last j) (sym c.parse_natural-2.ensures ∙ c.in_ok-b.was),
    )
