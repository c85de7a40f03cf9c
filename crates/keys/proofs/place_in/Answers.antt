use Rattle.std.proofs.Common.{◌∙◌, List, ℕ, Bor, rules}
use Rattle.std.proofs.lemmas.Iterator.{YieldsList-from_slice}
use Rattle.std.proofs.lemmas.Iterator.Search.{position_from_yields_List}
use borrow.Author.Tests.{tests}
use Rattle.keys.specs.Keys.{same_key}
use Rattle.keys.proofs.Keys.{which-place}
use Rattle.keys.proofs.place_in.Goals as goal

pub returns : goal.returns
returns c =
    let g = c.args in
    position_from_yields_List (λ (n : Bor (List ℕ)). same_key g.key.now n.now) _ _ c.position.result c.position.ensures.ran (YieldsList-from_slice g.names.now cc) (λ x b q k. search (rules, tests))
    ∙ which-place (λ (n : Bor (List ℕ)). n.now) g.names.now g.key.now
