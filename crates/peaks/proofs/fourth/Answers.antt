use Rattle.peaks.proofs.Wides.{to-fourth}
use Rattle.peaks.proofs.fourth.Goals as goal

pub returns : goal.returns
returns c = rw (to-fourth c.args.v, c.from-square.ensures, c.from.ensures)
