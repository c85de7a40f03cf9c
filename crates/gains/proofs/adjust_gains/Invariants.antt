-- The invariant: the gains before the index are moved.
use Rattle.std.proofs.Common.{◌≡◌}
use Rattle.frame.specs.Gain.{adjust}
use Rattle.gains.proofs.Mapping.{mapped}
use Rattle.gains.proofs.adjust_gains.Given as goal

abbrev pub invariant-loop-gain : goal.invariant-loop-gain
invariant-loop-gain l = l.gains ≡ mapped (adjust l.mode l.steps.0) l.gain-index l.initial.gains
