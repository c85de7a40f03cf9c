use borrow.Author.Rules.{rules}
use Rattle.keys.specs.Keys.{same_key}
use Rattle.gate.proofs.Gates.{gate-passed}
use Rattle.edit.proofs.tests.without.Goals as goal

pub drop_items-requires-clause-tests : goal.drop_items-requires-clause-tests
drop_items-requires-clause-tests c = (same_key c.args.key.now, λ k b s e. search rules)

pub drop_items-requires-clause-fit : goal.drop_items-requires-clause-fit
drop_items-requires-clause-fit c = (gate-passed c.args.file.now c.gate.ensures c.in_ok-place.was, c.if-file-gt-FILE_LIMIT.false)
