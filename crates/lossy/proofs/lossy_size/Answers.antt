-- `lossy::lossy_size` meets its contract: the table that it lends has the rule.
use Rattle.utf8.proofs.Rule.{class-table}
use Rattle.lossy.proofs.lossy_size.Goals as goal

pub lossy_within-requires : goal.lossy_within-requires
lossy_within-requires c = class-table
