use borrow.Author.Rules.{rules}
use mathlib.Core.Path.{◌≡◌, ◌∙◌}
use mir.Syntax.{w32}
use mir.Val.{SFits, to_z, of_z}
use mir.Facts.{to_z-of_z}
use lib.IntN.{ℤ, ◌-ℤ◌}
use Rattle.std.specs.Int.{saturate_signed}
use Rattle.values.specs.Undo.{sat32, accumulated}
use Rattle.values.proofs.Sums.{saturated}
use Rattle.values.proofs.accumulate_undo.Goals as goal

-- a difference of two numbers as an i32 holds them
apart : (x y : ℤ) → SFits w32 x → SFits w32 y → saturate_signed w32 (to_z w32 (of_z w32 x) -ℤ to_z w32 (of_z w32 y)) ≡ sat32 (x -ℤ y)
apart x y f g = rw (to_z-of_z f, to_z-of_z g) (saturated (x -ℤ y))

pub returns : goal.returns
unfolding accumulated
returns c =
    let fl : SFits w32 c.saturating_sub.result = search rules in
    let fr : SFits w32 c.saturating_sub-2.result = search rules in
    let gl : SFits w32 c.args.left.0 = search rules in
    let gr : SFits w32 c.args.right.0 = search rules in
    let hl : SFits w32 c.parse_undo_values-stored.result.left = search rules in
    let hr : SFits w32 c.parse_undo_values-stored.result.right = search rules in
    let el = c.saturating_sub.ensures ∙ apart c.parse_undo_values-stored.result.left c.args.left.0 hl gl in
    let er = c.saturating_sub-2.ensures ∙ apart c.parse_undo_values-stored.result.right c.args.right.0 hr gr in
    rw (to_z-of_z fl, to_z-of_z fr, el, er, c.parse_undo_values-stored.ensures)
