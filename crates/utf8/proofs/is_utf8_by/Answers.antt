-- `utf8::is_utf8_by` meets its contract: the text is valid where no ill-formed part follows its first run.
use mathlib.Core.Path.{sym}
use Rattle.utf8.proofs.Stretch.{valid-ran}
use Rattle.utf8.proofs.is_utf8_by.Goals as goal

pub returns : goal.returns
returns c = sym (valid-ran c.run_from.ensures)
