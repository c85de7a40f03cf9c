use Rattle.std.proofs.Common.{arith}
use Rattle.std.proofs.lemmas.Grind.{common_steps}
use Rattle.frame.specs.Tail.{sound_end}
use Rattle.frame.proofs.Tails.{id3v1-long}
use Rattle.frame.proofs.find_audio_end.Goals as goal

pub overflow_sub-file : goal.overflow_sub-file
overflow_sub-file c = grind (arith, common_steps, id3v1-long)

pub returns-then-ends_with_id3v1 : goal.returns-then-ends_with_id3v1
unfolding sound_end
returns-then-ends_with_id3v1 c = grind (arith, common_steps)

pub returns-else-ends_with_id3v1 : goal.returns-else-ends_with_id3v1
unfolding sound_end
returns-else-ends_with_id3v1 c = grind (arith, common_steps)
