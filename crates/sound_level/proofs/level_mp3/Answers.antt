-- The mode is resolved first.
use Rattle.sound_level.proofs.level_mp3.Goals as goal

pub returns : goal.returns
returns c = rw c.resolve_mode.ensures at c.level_sound.ensures
