use borrow.Author.Rules.{rules}
use mathlib.Core.Path.{ap, ◌∙◌}
use lib.Dec.{ltb}
use lib.Signed.{mag}
use Rattle.number.proofs.Signs.{taken}
use Rattle.checks.proofs.Numbers.{by-mag}
use Rattle.checks.proofs.is_undo_number.Goals as goal

pub returns : goal.returns
returns c =
    let a = c.take_apart in
    ap (λ n. ltb n 32768) (by-mag a.result ∙ ap mag (taken c.args.n a.result c.ranges.n a.ensures).1)
