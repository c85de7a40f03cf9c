use mathlib.Core.Path.{sym, ap, ◌∙◌}
use native.Mathlib.Omega.{arith}
use borrow.Author.Tests.{lt-leb}
use Rattle.lists.specs.Choice.{is_some}
use Rattle.items.proofs.Area.{parse-long}
use Rattle.items.proofs.well_formed.Goals as goal

pub returns-else-count-area : goal.returns-else-count-area
returns-else-count-area c = lt-leb _ _ c.if-count-area.false ∙ sym (ap is_some (parse-long c.args.count c.args.area.now (omega arith)))
