use mathlib.Core.Path.{ap}
use borrow.Author.Tests.{lt-ltb, le-ltb}
use Rattle.tail_write.specs.declared.Rewritten.TheVariants.{Stopped}
use Rattle.tail_write.proofs.found_then.Goals as goal

pub returns-then-new-end : goal.returns-then-new-end
returns-then-new-end c = rw (lt-ltb _ _ c.if-new-end.true)

pub returns : goal.returns
returns c = rw (le-ltb _ _ c.if-new-end.false) (ap (Stopped c.args.end) c.max.ensures)
