use mathlib.Core.Path.{sym, ◌∙◌, ap}
use mathlib.Core.Bool.{◌||◌, not}
use borrow.Author.Rules.{rules}
use native.Mathlib.Omega.{arith}
use Prim.Native.Nat.{◌+◌}
use lib.ListN.{get_or}
use Rattle.lists.proofs.All.{all_none, all-gather}
use Rattle.lists.proofs.all_of.Goals as goal

pub loop-n-init : goal.loop-n-init
loop-n-init g c p h = sym (all_none p c.args.s.now)

pub loop-n-preserved : goal.loop-n-preserved
loop-n-preserved g c p h =
    let a = c.args in
    let l = c.loop-n in
    let e = h (get_or a.s.now (a.at + l.n) 0) c.test.result (search rules) c.test.ensures in
    ap (λ t. not (l.other || not t)) e ∙ all-gather p a.s.now a.at l.n l.other (omega (arith, c.requires.inside)) (l.invariant p h)
