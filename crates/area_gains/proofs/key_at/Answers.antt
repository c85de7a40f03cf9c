use Rattle.keys.specs.Keys.{keys}
use Rattle.area_gains.specs.Gains.{gain_keys}
use Rattle.area_gains.proofs.Rest.{five-at}
use Rattle.area_gains.proofs.key_at.Goals as goal

pub returns : goal.returns
unfolding gain_keys keys
returns c = five-at c.args.i c.requires _ _ _ _ _ _
