use mathlib.Core.Path.{◌≡◌}
use Rattle.std.specs.Prelude.{Err}
use borrow.Author.Rules.{rules}
use lib.ListN.{length}
use Rattle.items.specs.Items.{items_in}
use Rattle.edit.specs.Finish.{tag_plan}
use Rattle.level.proofs.Levelling.{filed-done, filed-refused}
use Rattle.level.proofs.filed.Goals as goal

pub returns : goal.returns
returns c =
    let g = c.args in
    let p = tag_plan g.file.now (items_in g.count g.area.now) (length g.out.now) in
    (filed-done p g.peaks c.in_ok-length.ensures.0, c.finish.ensures.1)

pub returns-in_err-length : goal.returns-in_err-length
returns-in_err-length c =
    let g = c.args in
    let p = tag_plan g.file.now (items_in g.count g.area.now) (length g.out.now) in
    let r : c.from_residual.result ≡ Err c.in_err-length.field-0.0 = search rules in
    rw r (filed-refused p g.peaks c.in_err-length.ensures.0, c.finish.ensures.1)
