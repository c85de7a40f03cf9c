-- Either way the items are written in one pass.
use Prim.Native.Nat.{ℕ}
use Rattle.std.specs.Prelude.{Option, None, Some, IsSome}
use mathlib.Core.Path.{◌≡◌, refl, sym, ap, ◌∙◌}
use mathlib.Core.Bool.{true, true≢false}
use mathlib.Core.List.{List}
use native.Mathlib.Omega.{arith}
use mir.Syntax.{w32}
use mir.Val.{SFits, to_z, of_z}
use mir.Facts.{to_z-of_z}
use borrow.Author.Rules.{rules}
use lib.ListN.{length}
use Rattle.keys.specs.Keys.{is_undone}
use Rattle.items.specs.Items.{Item, area_bytes, items_in, without}
use Rattle.lists.specs.Choice.{is_some}
use Rattle.items.specs.Items.{parse}
use Rattle.items.specs.declared.Size.{Size}
use Rattle.area_drop.specs.Drops.{measured_of}
use Rattle.area_drop.proofs.Plans.{sized, unsized}
use Rattle.calls.specs.Calls.{Level, shifted_items, shift_stored_gain}
use Rattle.level_items.proofs.Moved.{moved-equal, moved_other}
use Rattle.gains.specs.Moves.{level_by}
use Rattle.level_items.proofs.put_moved.Goals as goal
use Rattle.level_items.proofs.put_moved.Goals.{Else-moves, Start, Then-moves}

-- what level is asked, and the items that it finds
abbrev asked : (b : Start) → Level
asked b = level_by b.args.moves

abbrev there : (b : Start) → List Item
there b = items_in b.args.count b.args.area.now

-- the steps are equal
alike : (c : Then-moves) → shifted_items (level_by c.args.moves) ((items_in c.args.count c.args.area.now)) ≡ shift_stored_gain c.args.moves.mode c.args.moves.left.0 ((items_in c.args.count c.args.area.now))
alike c =
    let g = c.args in
    let hl : SFits w32 g.moves.left.0 = search rules in
    let hr : SFits w32 g.moves.right.0 = search rules in
    moved-equal (level_by c.args.moves) ((items_in c.args.count c.args.area.now)) (sym (to_z-of_z hl) ∙ ap (to_z w32) c.if-moves.true ∙ to_z-of_z hr)

apart : (c : Else-moves) → shifted_items (level_by c.args.moves) ((items_in c.args.count c.args.area.now)) ≡ without is_undone ((items_in c.args.count c.args.area.now))
apart c = moved_other (level_by c.args.moves) ((items_in c.args.count c.args.area.now)) (λ e. c.if-moves.false (ap (of_z w32) e))

pub write_shifted-requires : goal.write_shifted-requires
write_shifted-requires c = (c.requires.0, omega (arith, ap (λ ts. length (area_bytes ts)) (alike (goal.at.write_shifted-requires c).Then-moves), c.requires.1))

pub returns-then-moves : goal.returns-then-moves
returns-then-moves c = rw (alike (goal.at.returns-then-moves c).Then-moves) c.write_shifted.ensures

-- the area is well formed, so it was measured
measured : (n : ℕ) (s : List ℕ) (m : Option Size) → is_some (parse n s) ≡ true → m ≡ measured_of (without is_undone) n s → IsSome m
measured n s None e q = absurd (true≢false (sym e ∙ unsized (without is_undone) n s q))
measured n s (Some z) e q = refl

pub unwrap-size-requires : goal.unwrap-size-requires
unwrap-size-requires c = measured c.args.count c.args.area.now c.measure_without_keys.result c.requires.0 c.measure_without_keys.ensures

pub write_without_keys-requires-clause-room : goal.write_without_keys-requires-clause-room
write_without_keys-requires-clause-room c =
    omega (arith, ap (λ ts. length (area_bytes ts)) (apart (goal.at.write_without_keys-requires-clause-room c).Else-moves), c.requires.1)

pub returns : goal.returns
returns c =
    let w = c.write_without_keys.ensures in
    let m = c.measure_without_keys.ensures in
    let z = sized (without is_undone) c.args.count c.args.area.now c.unwrap-size.result (sym c.unwrap-size.ensures ∙ m) in
    rw (apart (goal.at.returns c).Else-moves) (z.count, z.length, w.1)
