use mathlib.Core.Path.{◌≡◌, ap}
use mathlib.Core.Bool.{not}
use Prim.Native.Nat.{ℕ, ◌-◌}
use borrow.Author.Rules.{rules}
use borrow.Author.Tests.{tests}
use lib.ListN.{length}
use Rattle.std.specs.Prelude.{position, reverse}
use Rattle.std.proofs.lemmas.Iterator.Adapters.{YieldsList-from_rev_slice}
use Rattle.std.proofs.lemmas.Iterator.Search.{position_from_yields_List}
use Rattle.number.specs.Trim.{is_space}
use Rattle.number.proofs.Spaces.{back-at}
use Rattle.number.proofs.back.Goals as goal

pub returns : goal.returns
returns c =
    let n = length c.args.s.now in
    let p : c.position.result ≡ position (λ x. not (is_space x)) (reverse c.args.s.now) =
    position_from_yields_List (λ x. not (is_space x)) _ _ _ c.position.ensures.ran (YieldsList-from_rev_slice c.args.s.now (cc)) (λ x b q k. search (rules, tests)) in
    back-at c.args.s.now (n - c.unwrap_or.result) (ap (λ (k : ℕ). n - k) (rw p at c.unwrap_or.ensures))
