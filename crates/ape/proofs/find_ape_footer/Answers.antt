use mathlib.Core.Path.{refl}
use borrow.Author.Tests.{le-leb, lt-leb}
use Rattle.ape.proofs.find_ape_footer.Goals as goal

pub returns-then-file-gt-FILE_LIMIT : goal.returns-then-file-gt-FILE_LIMIT
returns-then-file-gt-FILE_LIMIT c = rw (lt-leb _ _ c.if-file-gt-FILE_LIMIT.true)

pub returns : goal.returns
returns c = rw (le-leb _ _ c.if-file-gt-FILE_LIMIT.false, c.find_footer.ensures) refl
