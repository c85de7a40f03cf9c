use mathlib.Core.Path.{◌≡◌, refl}
use borrow.Author.Rules.{rules}
use borrow.Author.Tests.{le-leb, lt-leb}
use Rattle.ape.specs.Answers.{read_plan}
use Rattle.tail_read.specs.Answers.{end_plan}
use Rattle.tail_read.proofs.read_end.Goals as goal

pub returns-then-total-gt-FILE_LIMIT : goal.returns-then-total-gt-FILE_LIMIT
unfolding end_plan
returns-then-total-gt-FILE_LIMIT c = rw (lt-leb _ _ c.if-total-gt-FILE_LIMIT.true) (refl, refl)

pub returns : goal.returns
unfolding end_plan read_plan
returns c = rw (le-leb _ _ c.if-total-gt-FILE_LIMIT.false) c.read_ape_tag.ensures
