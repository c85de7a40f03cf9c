use mathlib.Core.Path.{◌≡◌, sym, ap, ◌∙◌}
use mathlib.Core.Bool.{true, false}
use Rattle.std.specs.Prelude.{Some, Ok, Err}
use native.Mathlib.Omega.{arith}
use mir.Syntax.{w32}
use mir.Val.{SFits}
use mir.Facts.{to_z-of_z}
use borrow.Author.Rules.{rules}
use Rattle.lists.specs.Bytes.{Small}
use Rattle.values.specs.Undo.{parse_undo, undo_wraps}
use Rattle.keys.specs.Keys.{undo_key}
use Rattle.items.specs.Items.{items_in, is_repeated}
use Rattle.items.specs.Answers.{value_of}
use Rattle.calls.specs.Calls.{stored_undo}
use Rattle.checks.proofs.Stored.{searched, nothing, something, said-14, said-10, said-is}
use Rattle.checks.proofs.stored_undo.Goals as goal
use Rattle.checks.proofs.stored_undo.Goals.{After-find, In-Some}

small : (b : After-find) → Small b.args.area.now
small b = λ i. omega (arith, b.shared_slice_known-1.given i)

-- one is stored
found : (c : In-Some) → (stored_undo (items_in c.args.count c.args.area.now) ≡ Some (value_of c.args.area.now c.in-Some.f))
    × (is_repeated undo_key (items_in c.args.count c.args.area.now) ≡ c.in-Some.f.repeated)
unfolding undo_key
found c = something c.args.area.now c.args.count (λ i. omega (arith, c.shared_slice_known-1.given i)) c.requires (sym (ap Ok c.in-Some.is) ∙ c.in_ok-f.ensures)

pub returns-in_err-f : goal.returns-in_err-f
unfolding undo_key
returns-in_err-f c = absurd (searched c.args.area.now c.args.count (small (goal.at.returns-in_err-f c).After-find) c.requires c.in_err-f.ensures)

pub returns-in_default : goal.returns-in_default
unfolding undo_key
returns-in_default c =
    let n = nothing c.args.area.now c.args.count (small (goal.at.returns-in_default c).After-find) c.requires (sym (ap Ok c.in_default.is) ∙ c.in_ok-f.ensures) in
    sym (said-10 (items_in c.args.count c.args.area.now) n.1 n.0)

pub returns-then-f : goal.returns-then-f
returns-then-f c =
    let p = goal.at.returns-then-f c in
    sym (said-14 (items_in c.args.count c.args.area.now) ((found p.In-Some).1 ∙ c.if-f.true))

pub returns : goal.returns
returns c =
    let p = goal.at.returns c in
    let f = found p.In-Some in
    let numbers : c.parse_undo_values-u.result ≡ parse_undo (value_of c.args.area.now c.in-Some.f) = c.parse_undo_values-u.ensures ∙ ap parse_undo c.part-text.ensures.0 in
    let flag : c.parse_undo_wrap.result ≡ undo_wraps (value_of c.args.area.now c.in-Some.f) = c.parse_undo_wrap.ensures ∙ ap undo_wraps c.part-text.ensures.0 in
    let hl : SFits w32 c.parse_undo_values-u.result.left = search rules in
    let hr : SFits w32 c.parse_undo_values-u.result.right = search rules in
    rw (said-is (items_in c.args.count c.args.area.now) (f.1 ∙ c.if-f.false) f.0, ← numbers, ← flag, to_z-of_z hl, to_z-of_z hr)
