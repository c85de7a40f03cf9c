use borrow.Author.Rules.{rules}
use Prim.Native.Nat.{ℕ, ◌+◌, ◌-◌, ◌≤◌}
use mathlib.Core.List.{List}
use native.Mathlib.Omega.{arith}
use lib.ListN.{length, take, drop}
use Rattle.number.proofs.Cuts.{front-is, front-size, no-back, within-back, back_is}
use Rattle.slip.specs.Slip.{slip_form}
use Rattle.slip.proofs.slip_form.Goals as goal
use Rattle.slip.proofs.slip_form.Goals.{Else-a-text, Else-b-behind}

-- what follows a byte at e
abbrev cut_behind : List ℕ → ℕ → List ℕ
cut_behind s e = take (length s - (e + 1)) (drop (e + 1) s)

-- what follows the first LF is a part of the text
second-line : (c : Else-a-text) → c.find_byte-a.result + 1 ≤ length c.args.text.now
second-line c = within-back 10 c.args.text.now c.find_byte-a.result c.find_byte-a.ensures c.if-a-text.false

-- and what follows the second is a part of that
last_line : (c : Else-b-behind) → c.find_byte-b.result + 1 ≤ length (cut_behind c.args.text.now c.find_byte-a.result)
last_line c =
    let t = cut_behind c.args.text.now c.find_byte-a.result in
    within-back 10 t c.find_byte-b.result c.find_byte-b.ensures c.if-b-behind.false

pub returns-then-a-text : goal.returns-then-a-text
unfolding slip_form
returns-then-a-text c = rw (no-back 10 c.args.text.now c.find_byte-a.result c.find_byte-a.ensures c.if-a-text.true)

pub returns-then-b-behind : goal.returns-then-b-behind
unfolding slip_form
returns-then-b-behind c =
    let s = c.args.text.now in
    let e = c.find_byte-a.result in
    rw (back_is 10 s e c.find_byte-a.ensures c.if-a-text.false, no-back 10 (cut_behind s e) c.find_byte-b.result c.find_byte-b.ensures c.if-b-behind.true)

pub returns : goal.returns
unfolding slip_form
returns c =
    let s = c.args.text.now in
    let e = c.find_byte-a.result in
    let t = cut_behind s e in
    let h = c.find_byte-b.result in
    rw (
      back_is 10 s e c.find_byte-a.ensures c.if-a-text.false,
      back_is 10 t h c.find_byte-b.ensures c.if-b-behind.false,
      ← front-is 10 s e c.find_byte-a.ensures,
      ← front-is 10 t h c.find_byte-b.ensures,
    )
    c.lines_form.ensures

pub overflow_add-behind : goal.overflow_add-behind
overflow_add-behind c = omega (arith, second-line c)

pub slice_bounds-behind-count : goal.slice_bounds-behind-count
slice_bounds-behind-count c = second-line c

pub slice_bounds-behind-start : goal.slice_bounds-behind-start
slice_bounds-behind-start c = let h = second-line c in search rules

pub slice_bounds-lines_form-end : goal.slice_bounds-lines_form-end
slice_bounds-lines_form-end c = front-size 10 c.args.text.now c.find_byte-a.result c.find_byte-a.ensures

pub slice_bounds-lines_form-end-2 : goal.slice_bounds-lines_form-end-2
slice_bounds-lines_form-end-2 c = front-size 10 (cut_behind c.args.text.now c.find_byte-a.result) c.find_byte-b.result c.find_byte-b.ensures

pub overflow_add-b : goal.overflow_add-b
overflow_add-b c = omega (arith, last_line (goal.at.overflow_add-b c).Else-b-behind)

pub slice_bounds-lines_form-count : goal.slice_bounds-lines_form-count
slice_bounds-lines_form-count c = last_line (goal.at.slice_bounds-lines_form-count c).Else-b-behind

pub slice_bounds-lines_form-start : goal.slice_bounds-lines_form-start
slice_bounds-lines_form-start c = let h = last_line (goal.at.slice_bounds-lines_form-start c).Else-b-behind in search rules
