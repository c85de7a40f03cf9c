use mathlib.Core.Path.{◌≡◌}
use mathlib.Core.Bool.{not}
use borrow.Author.Rules.{rules}
use borrow.Author.Tests.{tests}
use Rattle.std.specs.Prelude.{position}
use Rattle.std.proofs.lemmas.Iterator.{YieldsList-from_slice}
use Rattle.std.proofs.lemmas.Iterator.Search.{position_from_yields_List}
use Rattle.number.specs.Reading.{is_digit}
use Rattle.fixed_ranges.proofs.Digits.{digits-at}
use Rattle.fixed_ranges.proofs.digits_len.Goals as goal

pub returns : goal.returns
returns c =
    let p : c.position.result ≡ position (λ x. not (is_digit x)) c.args.s.now =
    position_from_yields_List (λ x. not (is_digit x)) _ _ _ c.position.ensures.ran (YieldsList-from_slice c.args.s.now (cc)) (λ x b q k. search (rules, tests)) in
    digits-at c.args.s.now c.unwrap_or.result (rw p at c.unwrap_or.ensures)
