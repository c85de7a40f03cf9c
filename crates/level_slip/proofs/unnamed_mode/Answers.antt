use mathlib.Core.Path.{◌≡◌, refl, sym, ap, ◌∙◌}
use mathlib.Core.Bool.{true}
use mathlib.Core.List.{List}
use Prim.Native.Nat.{ℕ}
use Rattle.std.specs.Prelude.{Option, Result, Ok, Err, IsOk}
use native.Mathlib.Omega.{arith}
use borrow.Author.Rules.{rules}
use Rattle.lists.specs.Bytes.{Small}
use Rattle.lists.specs.Choice.{is_some}
use Rattle.replies.specs.declared.Refusal.{Refusal}
use Rattle.frame.specs.Gain.{mode_of}
use Rattle.keys.specs.Keys.{undo_key}
use Rattle.values.specs.Undo.{undo_wraps}
use Rattle.items.specs.Items.{parse, items_in}
use Rattle.items.specs.Answers.{find_of}
use Rattle.items.specs.declared.Found.{Found}
use Rattle.checks.proofs.Stored.{searched, nothing, something}
use Rattle.level_slip.proofs.Resolving.{mode-none, mode-there}
use Rattle.level_slip.proofs.unnamed_mode.Goals as goal
use Rattle.level_slip.proofs.unnamed_mode.Goals.{After-find}

small : (b : After-find) → Small b.args.area.now
small b = λ i. omega (arith, b.shared_slice_known-1.given i)

-- the area is well formed, so the search is not refused
unrefused : (s : List ℕ) (n : ℕ) → Small s → is_some (parse n s) ≡ true → (r : Result (Option Found) Refusal) → r ≡ find_of s n undo_key → IsOk r
unrefused s n b w (Ok o) e = refl
unrefused s n b w (Err r) e = absurd (searched s n b w e)

pub unwrap-requires : goal.unwrap-requires
unfolding undo_key
unwrap-requires c = unrefused c.args.area.now c.args.count (small (goal.at.unwrap-requires c).After-find) c.requires c.find.result c.find.ensures

pub returns-in_default : goal.returns-in_default
unfolding undo_key
returns-in_default c =
    let g = c.args in
    mode-none (items_in g.count g.area.now)
    (nothing g.area.now g.count (small (goal.at.returns-in_default c).After-find) c.requires (sym (ap Ok c.in_default.is) ∙ sym c.unwrap.ensures ∙ c.find.ensures)).0

pub returns : goal.returns
unfolding undo_key
returns c =
    let g = c.args in
    c.from_wrap.ensures
    ∙ ap mode_of (c.parse_undo_wrap.ensures ∙ ap undo_wraps c.part.ensures.0)
    ∙ mode-there (items_in g.count g.area.now)
    (something g.area.now g.count (small (goal.at.returns c).After-find) c.requires (sym (ap Ok c.in-Some.is) ∙ sym c.unwrap.ensures ∙ c.find.ensures)).0
