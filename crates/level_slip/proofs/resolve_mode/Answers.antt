use borrow.Author.Rules.{rules}
use Rattle.calls.specs.Calls.{resolved}
use Rattle.level_slip.proofs.resolve_mode.Goals as goal

pub returns-in-None : goal.returns-in-None
returns-in-None c = rw c.in-None.is c.file_mode.ensures

pub returns-in-Some : goal.returns-in-Some
unfolding resolved
returns-in-Some c = rw c.in-Some.is
