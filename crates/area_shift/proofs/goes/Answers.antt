use borrow.Author.Rules.{rules}
use Rattle.area_shift.proofs.goes.Goals as goal

pub returns-in-Saturating : goal.returns-in-Saturating
returns-in-Saturating c = rw c.in-Saturating.is

pub returns-in-Wrapping : goal.returns-in-Wrapping
returns-in-Wrapping c = rw c.in-Wrapping.is c.range_wraps_out.ensures
