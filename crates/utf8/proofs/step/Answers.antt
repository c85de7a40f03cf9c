-- `utf8::step` meets its contract: the table that it lends has the rule.
use Rattle.utf8.proofs.Rule.{class-table}
use Rattle.utf8.proofs.step.Goals as goal

pub step_by-requires : goal.step_by-requires
step_by-requires c = class-table
