use mathlib.Core.List.{[], ◌∷◌, append_assoc}
use native.Mathlib.Omega.{arith}
use borrow.Author.Rules.{rules}
use mir.Syntax.{w32}
use mir.Val.{SFits, to_z, of_z}
use mir.Facts.{to_z-of_z}
use lib.ListN.{replicate}
use Rattle.lists.proofs.Wrote.{start, next}
use Rattle.decimal.specs.Writing.{signed}
use Rattle.decimal.proofs.Places.{text-is}
use Rattle.values.specs.Undo.{flag_byte, format_undo}
use Rattle.values.proofs.format_undo_value.Goals as goal

pub returns : goal.returns
unfolding format_undo
returns c =
    let g = c.args in
    let fl : SFits w32 g.left = search rules in
    let fr : SFits w32 g.right = search rules in
    let e3 = rw c.flag_byte.ensures at c.put-len.ensures in
    let w1 = next (start (replicate 32 0) 0 (omega arith)) (signed (to_z w32 (of_z w32 g.left))) (c.put_signed-a.ensures.0, c.put_signed-a.ensures.1) in
    let w2 = next w1 (44 ∷ []) c.put-b.ensures in
    let w3 = next w2 (signed (to_z w32 (of_z w32 g.right))) (c.put_signed-c.ensures.0, c.put_signed-c.ensures.1) in
    let w4 = next w3 (44 ∷ flag_byte g.wrap ∷ []) e3 in
    text-is w4 (format_undo g.left g.right g.wrap) (rw (to_z-of_z fl, to_z-of_z fr) (simp append_assoc))
