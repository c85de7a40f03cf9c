use mathlib.Core.Path.{◌≡◌, sym, ap, ◌∙◌}
use mathlib.Core.Bool.{true, false}
use mathlib.Core.List.{List}
use Rattle.std.specs.Prelude.{Some, Ok}
use native.Mathlib.Omega.{arith}
use borrow.Author.Rules.{rules}
use Rattle.lists.specs.Bytes.{Small}
use Rattle.keys.specs.Keys.{undo_key}
use Rattle.items.specs.Items.{Item, items_in, is_repeated}
use Rattle.items.specs.Answers.{value_of}
use Rattle.calls.specs.Calls.{Level, stored_undo, agrees}
use Rattle.checks.specs.Checks.{next_undo_answer}
use Rattle.checks.proofs.Numbers.{next-14, next-none, next-9, next-some}
use Rattle.checks.proofs.Stored.{searched, nothing, something}
use Rattle.gains.specs.Moves.{level_by}
use Rattle.checks.proofs.next_undo.Goals as goal
use Rattle.checks.proofs.next_undo.Goals.{After-find, In-Some, Start}

-- what level is asked, and the items that it finds
abbrev asked : (b : Start) → Level
asked b = level_by b.args.moves

abbrev there : (b : Start) → List Item
there b = items_in b.args.count b.args.area.now

small : (b : After-find) → Small b.args.area.now
small b = λ i. omega (arith, b.shared_slice_known-1.given i)

-- one is stored
found : (c : In-Some) → (stored_undo (items_in c.args.count c.args.area.now) ≡ Some (value_of c.args.area.now c.in-Some.f))
    × (is_repeated undo_key (items_in c.args.count c.args.area.now) ≡ c.in-Some.f.repeated)
unfolding undo_key
found c = something c.args.area.now c.args.count (λ i. omega (arith, c.shared_slice_known-1.given i)) c.requires (sym (ap Ok c.in-Some.is) ∙ c.in_ok-f.ensures)

pub returns-in_err-f : goal.returns-in_err-f
unfolding undo_key
returns-in_err-f c = absurd (searched c.args.area.now c.args.count (small (goal.at.returns-in_err-f c).After-find) c.requires c.in_err-f.ensures)

pub returns-in_default : goal.returns-in_default
unfolding undo_key
returns-in_default c =
    let b = (goal.at.returns-in_default c).Start in
    let n = nothing c.args.area.now c.args.count (small (goal.at.returns-in_default c).After-find) c.requires (sym (ap Ok c.in_default.is) ∙ c.in_ok-f.ensures) in
    c.next_numbers.ensures ∙ ap next_undo_answer (sym (next-none (asked b) (there b) n.1 n.0))

pub returns-then-f : goal.returns-then-f
returns-then-f c =
    let p = goal.at.returns-then-f c in
    rw (next-14 (asked p.Start) (there p.Start) ((found p.In-Some).1 ∙ c.if-f.true))

-- whether its flag is that of the call
pub returns-then-not-agrees : goal.returns-then-not-agrees
returns-then-not-agrees c =
    let p = goal.at.returns-then-not-agrees c in
    let f = found p.In-Some in
    rw (next-9 (asked p.Start) (there p.Start) (f.1 ∙ c.if-f.false) f.0 (ap (agrees c.args.moves.mode) (sym c.part-text.ensures.0) ∙ sym c.agrees.ensures ∙ c.if-not-agrees.true))

pub returns : goal.returns
returns c =
    let p = goal.at.returns c in
    let f = found p.In-Some in
    rw (next-some (asked p.Start) (there p.Start) (f.1 ∙ c.if-f.false) f.0 (ap (agrees c.args.moves.mode) (sym c.part-text.ensures.0) ∙ sym c.agrees.ensures ∙ c.if-not-agrees.false), ← c.part-text.ensures.0) c.next_numbers-2.ensures
