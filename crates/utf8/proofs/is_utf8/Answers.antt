-- `utf8::is_utf8` meets its contract: ASCII is valid, and the table that it lends else passes the test.
use mathlib.Core.Path.{sym, ◌∙◌}
use mathlib.Core.Bool.{and-eq-true_iff}
use lib.Dec.{ltb}
use lib.ListN.{length}
use Rattle.utf8.specs.Utf8.{plain}
use Rattle.utf8.proofs.Laws.{valid-plain}
use Rattle.utf8.proofs.Rule.{class-table}
use Rattle.utf8.proofs.is_utf8.Goals as goal

pub returns-then-is_short_plain : goal.returns-then-is_short_plain
returns-then-is_short_plain c =
    let s = c.args.s.now in
    sym (valid-plain s ((and-eq-true_iff (ltb (length s) 512) (plain s)).0 (sym c.is_short_plain.ensures ∙ c.if-is_short_plain.true)).1)

pub is_utf8_by-requires : goal.is_utf8_by-requires
is_utf8_by-requires c = class-table
