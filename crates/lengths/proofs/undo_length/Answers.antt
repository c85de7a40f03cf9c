-- What the check says, and then the length of the file without the eight keys.
use mathlib.Core.Path.{◌≡◌, sym, ap, ◌∙◌}
use Rattle.std.specs.Prelude.{Err}
use borrow.Author.Rules.{rules}
use lib.ListN.{length}
use lib.Dec.{ltb}
use Rattle.calls.specs.Lengths.{unlimited, undo_length}
use Rattle.checks.specs.Checks.{undo_check}
use Rattle.checks.proofs.Whole.{any-is, Undoes, undo-ready, undo-not, undo-refused}
use Rattle.lengths.proofs.Measuring.{undo-is}
use Rattle.lengths.proofs.undo_length.Goals as goal
use Rattle.lengths.proofs.undo_length.Goals.{In_ok-ready}

-- the check is ready
ready : (c : In_ok-ready) → Undoes c.args.file.now (ltb 0 (length c.args.left.now)) c.in_ok-ready.ready
ready c = undo-ready c.args.file.now (ltb 0 (length c.args.left.now)) c.in_ok-ready.ensures

pub returns-in_err-ready : goal.returns-in_err-ready
unfolding undo_length
returns-in_err-ready c =
    let g = c.args in
    let r : c.from_residual.result ≡ Err c.in_err-ready.field-0.0 = search rules in
    rw (undo-refused g.file.now g.left.now g.right.now unlimited (ap (undo_check g.file.now) (sym (any-is g.left.now)) ∙ undo-not g.file.now (ltb 0 (length g.left.now)) c.in_err-ready.ensures), r)

pub drop_length-requires : goal.drop_length-requires
drop_length-requires c = let r = ready (goal.at.drop_length-requires c).In_ok-ready in (r.passed, r.short)

pub returns : goal.returns
returns c =
    let g = c.args in
    let t = ready (goal.at.returns c).In_ok-ready in
    rw (undo-is g.file.now g.left.now g.right.now t.passed (ap (undo_check g.file.now) (sym (any-is g.left.now)) ∙ t.check)) c.drop_length.ensures
