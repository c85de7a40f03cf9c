-- What the check says, and then the length of the file with the items that level leaves.
use mathlib.Core.Path.{◌≡◌, sym, ap, ◌∙◌}
use Rattle.std.specs.Prelude.{Err}
use borrow.Author.Rules.{rules}
use lib.ListN.{length}
use lib.Dec.{ltb}
use Rattle.calls.specs.Calls.{Level}
use Rattle.calls.specs.Lengths.{unlimited, level_length}
use Rattle.checks.specs.Checks.{level_check}
use Rattle.checks.proofs.Whole.{any-is, Levels, level-ready, level-not, level-refused}
use Rattle.level_lengths.proofs.Sizes.{level-is}
use Rattle.level_lengths.proofs.level_length.Goals as goal
use Rattle.level_lengths.proofs.level_length.Goals.{In_ok-ready, Start}

abbrev asked : (b : Start) → Level
asked b = record { left = b.args.moves.left.0; right = b.args.moves.right.0; mode = b.args.moves.mode }

-- the check is ready
ready : (c : In_ok-ready) → Levels c.args.file.now (ltb 0 (length c.args.left.now)) (record { left = c.args.moves.left.0; right = c.args.moves.right.0; mode = c.args.moves.mode }) c.in_ok-ready.ready
ready c = level-ready c.args.file.now (ltb 0 (length c.args.left.now)) (record { left = c.args.moves.left.0; right = c.args.moves.right.0; mode = c.args.moves.mode }) c.in_ok-ready.ensures

pub returns-in_err-ready : goal.returns-in_err-ready
unfolding level_length
returns-in_err-ready c =
    let g = c.args in
    let a = asked (goal.at.returns-in_err-ready c).Start in
    let n = level-not g.file.now (ltb 0 (length g.left.now)) a c.in_err-ready.ensures in
    let r : c.from_residual.result ≡ Err c.in_err-ready.field-0.0 = search rules in
    rw (level-refused g.file.now g.left.now g.right.now a unlimited (ap (λ b. level_check g.file.now b a) (sym (any-is g.left.now)) ∙ n), r)

pub items_length-requires : goal.items_length-requires
items_length-requires c = let r = ready (goal.at.items_length-requires c).In_ok-ready in (r.passed, r.short)

pub returns : goal.returns
returns c =
    let g = c.args in
    let a = asked (goal.at.returns c).Start in
    let t = ready (goal.at.returns c).In_ok-ready in
    rw (level-is g.file.now g.left.now g.right.now a (record { least = 0; greatest = 0 }) t.numbers (ap (λ b. level_check g.file.now b a) (sym (any-is g.left.now)) ∙ t.check)) c.items_length.ensures
