-- A refusal of the check, or of the new file, is the call's, and then no gain moves; else the file is written, and then the gains move.
use mathlib.Core.Path.{◌≡◌, refl, sym, ap, ◌∙◌}
use mathlib.Core.List.{List}
use Prim.Native.Nat.{ℕ}
use Rattle.std.specs.Prelude.{Ok, Err}
use borrow.Author.Rules.{rules}
use lib.ListN.{length}
use lib.Dec.{ltb}
use Rattle.lists.specs.Write.{over}
use Rattle.calls.specs.Gate.{items_of}
use Rattle.calls.specs.Calls.{Level, booked, new_items, peaks_kept}
use Rattle.ape_write.specs.Answers.{written_bytes}
use Rattle.edit.specs.Finish.{tag_plan}
use Rattle.checks.specs.Checks.{level_check}
use Rattle.checks.proofs.Whole.{any-is, Levels, level-ready, level-not, level-refused}
use Rattle.level_items.specs.Items.{ranged_items}
use Rattle.level.specs.Answers.{filed_answer}
use Rattle.level.proofs.Levelling.{new_is, last-refused, last_done, level-last}
use Rattle.level.proofs.level.Goals as goal
use Rattle.level.proofs.level.Goals.{After-write_file, In_ok-ready, Start}

abbrev asked : (b : Start) → Level
asked b = record { left = b.args.moves.left.0; right = b.args.moves.right.0; mode = b.args.moves.mode }

-- the peaks that it keeps
abbrev kept : (b : Start) → ℕ
kept b = peaks_kept b.args.moves.left.0 b.args.moves.right.0 (items_of b.args.file.now)

-- it is ready
ready : (c : In_ok-ready) → Levels c.args.file.now (ltb 0 (length c.args.left.now)) (record { left = c.args.moves.left.0; right = c.args.moves.right.0; mode = c.args.moves.mode }) c.in_ok-ready.ready
ready c = level-ready c.args.file.now (ltb 0 (length c.args.left.now)) (record { left = c.args.moves.left.0; right = c.args.moves.right.0; mode = c.args.moves.mode }) c.in_ok-ready.ensures

pub returns-in_err-ready : goal.returns-in_err-ready
returns-in_err-ready c =
    let g = c.args in
    let p = goal.at.returns-in_err-ready c in
    let n = level-not g.file.now (ltb 0 (length g.left.now)) (asked p.Start) c.in_err-ready.ensures in
    let r : c.from_residual.result ≡ Err c.in_err-ready.field-0.0 = search rules in
    rw (level-refused g.file.now g.left.now g.right.now (asked p.Start) (length g.out.now) (ap (λ b. level_check g.file.now b (asked p.Start)) (sym (any-is g.left.now)) ∙ n), r) (refl, refl, refl, refl)

pub write_file-requires : goal.write_file-requires
write_file-requires c = let r = ready (goal.at.write_file-requires c).In_ok-ready in (r.passed, r.short)

-- the items that are written are those of the plan
new : (c : After-write_file) → (a : Level) → a ≡ record { left = c.args.moves.left.0; right = c.args.moves.right.0; mode = c.args.moves.mode }
    → c.in_ok-ready.ready.undo ≡ booked a (items_of c.args.file.now)
    → ranged_items a c.in_ok-ready.ready.undo c.range_after-range.result (items_of c.args.file.now) ≡ new_items c.args.file.now c.args.left.now c.args.right.now a
new c a e u = new_is c.args.file.now c.args.left.now c.args.right.now a (length c.args.out.now) u (rw e c.range_after-range.ensures)

pub returns-in_err-answer : goal.returns-in_err-answer
returns-in_err-answer c =
    let g = c.args in
    let p = goal.at.returns-in_err-answer c in
    let a = asked p.Start in
    let t = ready p.In_ok-ready in
    let same = new p.After-write_file a refl t.numbers in
    let told = sym c.in_err-answer.was ∙ c.write_file.ensures.0 ∙ ap (λ ts. filed_answer (tag_plan g.file.now ts (length g.out.now)) (kept p.Start)) same in
    let (no-plan, nothing) = last-refused g.file.now g.left.now g.right.now a (length g.out.now) (kept p.Start) told in
    let r : c.from_residual-in_err-answer.result ≡ Err c.in_err-answer.field-0.0 = search rules in
    rw (level-last g.file.now g.left.now g.right.now a (length g.out.now) (ap (λ b. level_check g.file.now b a) (sym (any-is g.left.now)) ∙ t.check), no-plan, r) (
      refl,
      c.write_file.ensures.1 ∙ ap (λ us. over (written_bytes (tag_plan g.file.now us (length g.out.now))) g.out.now) same ∙ ap (λ (s : List ℕ). over s g.out.now) nothing,
      refl,
      refl,
    )

pub returns : goal.returns
returns c =
    let g = c.args in
    let p = goal.at.returns c in
    let a = asked p.Start in
    let t = ready p.In_ok-ready in
    let same = new p.After-write_file a refl t.numbers in
    let told = sym c.in_ok-answer.was ∙ c.write_file.ensures.0 ∙ ap (λ ts. filed_answer (tag_plan g.file.now ts (length g.out.now)) (kept p.Start)) same in
    let (yes-plan, is, bytes) = last_done g.file.now g.left.now g.right.now a (length g.out.now) (kept p.Start) told in
    rw (level-last g.file.now g.left.now g.right.now a (length g.out.now) (ap (λ b. level_check g.file.now b a) (sym (any-is g.left.now)) ∙ t.check), yes-plan) (
      ap Ok is,
      c.write_file.ensures.1 ∙ ap (λ us. over (written_bytes (tag_plan g.file.now us (length g.out.now))) g.out.now) same ∙ ap (λ (s : List ℕ). over s g.out.now) bytes,
      c.adjust_gains.ensures,
      c.adjust_gains-2.ensures,
    )

pub shape_of-left : goal.shape_of-left
shape_of-left c = c.adjust_gains.auto.gains

pub shape_of-right : goal.shape_of-right
shape_of-right c = c.adjust_gains-2.auto.gains

pub shape_of-out : goal.shape_of-out
shape_of-out c = c.write_file.auto.out
