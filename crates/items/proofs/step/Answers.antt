-- Each answer is a law of the step at a place.
use mathlib.Core.Path.{sym}
use Prim.Native.Nat.{◌+◌}
use native.Mathlib.Omega.{arith}
use lib.ListN.{drop, length-drop}
use Rattle.lists.proofs.Places.{place-within}
use Rattle.items.proofs.Walk.{step_end, step_cut, step-item}
use Rattle.items.proofs.step.Goals as goal
use Rattle.items.proofs.step.Goals.{After-find_byte-key_end}

pub returns-then-area-at : goal.returns-then-area-at
returns-then-area-at c = let g = c.args in sym (step_end g.area.now g.at c.if-area-at.true)

pub returns-then-area-at-lt8 : goal.returns-then-area-at-lt8
returns-then-area-at-lt8 c = let g = c.args in sym (step_cut g.area.now g.at (omega arith) (λ w. absurd (omega arith)))

-- the search ends in the area
pub overflow_sub-area-2 : goal.overflow_sub-area-2
overflow_sub-area-2 c =
    let g = c.args in
    omega (arith, c.find_byte-key_end.ensures, place-within 0 (drop (g.at + 8) g.area.now), length-drop (g.at + 8) g.area.now)

pub returns-then-area-key_end : goal.returns-then-area-key_end
returns-then-area-key_end c =
    let g = c.args in
    sym (step_cut g.area.now g.at (omega arith) (λ w. absurd (omega (arith, overflow_sub-area-2 (goal.at.returns-then-area-key_end c).After-find_byte-key_end))))

pub returns : goal.returns
returns c =
    let g = c.args in
    rw (c.read_u32_le.ensures, c.read_u32_le-n.ensures, c.find_byte-key_end.ensures)
    (sym (step-item g.area.now g.at (omega arith) (omega (arith, overflow_sub-area-2 (goal.at.returns c).After-find_byte-key_end))))
