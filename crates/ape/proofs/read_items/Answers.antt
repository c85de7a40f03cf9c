use mathlib.Core.Path.{◌≡◌, refl, sym, ap, ◌∙◌}
use mathlib.Core.Bool.{Bool, true, false, ◌&&◌, and-eq-true_iff}
use borrow.Author.Rules.{rules}
use borrow.Author.Tests.{not-true, not-false, leb-true}
use lib.Dec.{leb}
use lib.ListN.{length}
use Rattle.utf8.proofs.Rule.{class-table}
use Rattle.items.specs.Items.{area_bytes}
use Rattle.ape.specs.Tag.{read_items}
use Rattle.ape.proofs.Sizing.{room-least}
use Rattle.ape.proofs.read_items.Goals as goal
use Rattle.ape.proofs.read_items.Goals.{After-items_fit}

pub items_fit-requires : goal.items_fit-requires
items_fit-requires c = class-table

-- what the test says of the room and the limit
tested : (c : After-items_fit) → (b : Bool) → c.items_fit.result ≡ b
    → let g = c.args in
    let n = length (area_bytes (read_items g.count g.items.now)) in
    (leb n (length g.out.now) && leb n 16777216) ≡ b
tested c b e =
    let g = c.args in
    let n = length (area_bytes (read_items g.count g.items.now)) in
    sym (room-least n (length g.out.now) 16777216) ∙ ap (leb n) (sym c.min.ensures) ∙ sym c.items_fit.ensures ∙ e

pub returns-then-not-items_fit : goal.returns-then-not-items_fit
returns-then-not-items_fit c =
    rw (tested (goal.at.returns-then-not-items_fit c).After-items_fit false c.if-not-items_fit.true) (refl, refl)

pub write_items-requires : goal.write_items-requires
write_items-requires c =
    let t = tested (goal.at.write_items-requires c).After-items_fit true c.if-not-items_fit.false in
    (class-table, c.requires, leb-true _ _ ((and-eq-true_iff _ _).0 t).0)

pub returns : goal.returns
returns c =
    let e = c.write_items.ensures in
    let t = tested (goal.at.returns c).After-items_fit true c.if-not-items_fit.false in
    (rw (t, ← e.0, ← e.1) refl, rw t e.2)
