use Rattle.std.proofs.Common.{arith}
use Rattle.std.proofs.lemmas.Grind.{common_steps}
use Rattle.layer3.specs.Walk.{frame_at}
use Rattle.layer3.specs.Header.{header_of, is_valid}
use Rattle.layer3.proofs.Parse.{no_room}
use Rattle.layer3.proofs.may_begin.Goals as goal

pub returns-then-s-at-eq15 : goal.returns-then-s-at-eq15
unfolding frame_at header_of is_valid
returns-then-s-at-eq15 c e = grind (arith, common_steps)

pub returns-else-s-at-eq15 : goal.returns-else-s-at-eq15
unfolding frame_at header_of is_valid
returns-else-s-at-eq15 c e = grind (arith, common_steps, no_room c.args.s.now c.args.at)
