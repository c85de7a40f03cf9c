use borrow.Author.Tests.{le-leb, lt-leb}
use Rattle.frame.specs.Tail.{stands_at}
use Rattle.frame.proofs.ends_with_id3v1.Goals as goal

pub returns-then-file-ge128 : goal.returns-then-file-ge128
unfolding stands_at
returns-then-file-ge128 c = rw (le-leb _ _ c.if-file-ge128.true) c.starts_with.ensures

pub returns-else-file-ge128 : goal.returns-else-file-ge128
unfolding stands_at
returns-else-file-ge128 c = rw (lt-leb _ _ c.if-file-ge128.false)
