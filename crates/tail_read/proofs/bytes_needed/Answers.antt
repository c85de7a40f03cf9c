use Rattle.std.specs.Prelude.{Ok}
use mathlib.Core.Path.{◌≡◌, refl, ap}
use borrow.Author.Rules.{rules}
use borrow.Author.Tests.{le-leb, lt-leb}
use Rattle.tail_read.proofs.bytes_needed.Goals as goal

pub returns-then-total-gt-FILE_LIMIT : goal.returns-then-total-gt-FILE_LIMIT
returns-then-total-gt-FILE_LIMIT c = rw (lt-leb _ _ c.if-total-gt-FILE_LIMIT.true)

pub returns : goal.returns
returns c = rw (le-leb _ _ c.if-total-gt-FILE_LIMIT.false) (ap Ok c.number_needed.ensures)
