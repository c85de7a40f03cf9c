use mathlib.Core.Path.{sym}
use native.Mathlib.Omega.{arith}
use Rattle.items.proofs.Located.{locate-long}
use Rattle.items.proofs.locate.Goals as goal

pub returns-then-count-area : goal.returns-then-count-area
returns-then-count-area c = sym (locate-long c.args.area.now c.args.key.now c.args.count (omega arith))
