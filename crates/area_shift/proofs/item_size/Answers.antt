use native.Mathlib.Omega.{arith}
use mathlib.Core.Path.{◌≡◌, ap}
use borrow.Author.Rules.{rules}
use Prim.Native.Nat.{◌+◌, ◌-◌, ◌≤◌}
use lib.ListN.{length}
use Rattle.lists.proofs.Places.{length_part}
use Rattle.area_shift.specs.Shift.{shifted_bytes}
use Rattle.area_shift.proofs.Shifting.{stays-bytes, moved-size}
use Rattle.area_shift.proofs.item_size.Goals as goal
use Rattle.area_shift.proofs.item_size.Goals.{In-Some}

pub returns-in_default : goal.returns-in_default
returns-in_default c =
    let g = c.args in
    let e = stays-bytes g.steps.0 g.area.now g.at g.stop g.end c.in_default.ensures in
    (omega (arith, ap length e, length_part g.at g.end g.area.now c.requires.2), omega arith)

-- it has a new text
sized : (c : In-Some) → let g = c.args in
    (length (shifted_bytes g.steps.0 g.area.now g.at g.stop g.end) ≡ g.stop + 1 - g.at + c.in-Some.text.len) × (c.in-Some.text.len ≤ 21)
sized c =
    let g = c.args in
    let z = moved-size g.steps.0 g.area.now g.at g.stop g.end c.in-Some.ensures c.requires.0 c.requires.1 c.requires.2 in
    (z.0, z.1)

pub overflow_add-result : goal.overflow_add-result
overflow_add-result c = omega (arith, sized (goal.at.overflow_add-result c).In-Some, c.requires, c.well_formed.0)

pub returns : goal.returns
returns c = let z = sized (goal.at.returns c).In-Some in (omega (arith, z), omega (arith, z))
