use Prim.Native.Nat.{◌≤◌, ◌-◌}
use mathlib.Core.Path.{◌≡◌, sym, ◌∙◌}
use native.Mathlib.Omega.{arith}
use lib.ListN.{length, drop}
use borrow.Author.Tests.{le-leb, lt-leb}
use Rattle.lists.proofs.Wrote.{rest}
use Rattle.number.specs.Reading.{unsigned}
use Rattle.slip.specs.Slip.{step_text, step_line}
use Rattle.slip.proofs.Lines.{starts-fits, five-fit, digits-left}
use Rattle.slip.proofs.step_line.Goals as goal

pub returns-then-not-starts_with : goal.returns-then-not-starts_with
unfolding step_line
returns-then-not-starts_with c = rw (← c.starts_with.ensures, c.if-not-starts_with.true)

pub slice_bounds-text-count : goal.slice_bounds-text-count
slice_bounds-text-count c =
    let g = c.args in
    starts-fits g.name.now g.line.now (sym c.starts_with.ensures ∙ c.if-not-starts_with.false)

pub slice_bounds-text-start : goal.slice_bounds-text-start
slice_bounds-text-start c =
    let g = c.args in
    omega (arith, starts-fits g.name.now g.line.now (sym c.starts_with.ensures ∙ c.if-not-starts_with.false))

pub returns-then-text-sign_len-gt5 : goal.returns-then-text-sign_len-gt5
unfolding step_line step_text
returns-then-text-sign_len-gt5 c =
    let g = c.args in
    let k = length g.name.now in
    let r = rest g.line.now k in
    let u : length (unsigned (drop k g.line.now)) ≡ length g.line.now - k - c.sign_len.result = digits-left g.line.now k c.sign_len.result c.sign_len.ensures.1 in
    rw (← c.starts_with.ensures, c.if-not-starts_with.false, lt-leb (length (unsigned (drop k g.line.now))) 5 (omega (arith, u)))

pub returns : goal.returns
unfolding step_line step_text
returns c =
    let g = c.args in
    let k = length g.name.now in
    let t = drop k g.line.now in
    let r = rest g.line.now k in
    let u : length (unsigned t) ≡ length g.line.now - k - c.sign_len.result = digits-left g.line.now k c.sign_len.result c.sign_len.ensures.1 in
    let h : length (unsigned t) ≤ 5 = omega (arith, u) in
    rw (← c.starts_with.ensures, c.if-not-starts_with.false, le-leb (length (unsigned t)) 5 h, ← five-fit t h, ← r) c.parse_whole.ensures
