use Rattle.std.proofs.Common.{arith}
use Rattle.std.proofs.lemmas.Grind.{common_steps}
use Rattle.layer3.specs.Walk.{frame_at}
use Rattle.layer3.proofs.Parse.{no-sync, no_header, no_room}
use Rattle.layer3.proofs.frame_at.Goals as goal

pub returns-then-s-at : goal.returns-then-s-at
returns-then-s-at c = grind (arith, common_steps, no-sync, no_header, no_room)

pub returns : goal.returns
unfolding frame_at
returns c = let h = c.filter.ensures in grind (arith, common_steps)
