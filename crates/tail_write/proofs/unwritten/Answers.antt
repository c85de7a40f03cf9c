use Rattle.tail_write.proofs.unwritten.Goals as goal

pub returns-then-tagged : goal.returns-then-tagged
returns-then-tagged c = rw c.if-tagged.true

pub returns : goal.returns
returns c = rw c.if-tagged.false
