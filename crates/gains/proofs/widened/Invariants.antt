-- The invariant: the range with what is left of the list is the range with all of it.
use Rattle.std.proofs.Common.{◌≡◌, ◌≤◌, min, max, map, drop}
use Rattle.frame.specs.Gain.{adjust}
use Rattle.calls.specs.Calls.{least, greatest}
use Rattle.gains.proofs.widened.Given as goal

abbrev pub invariant-loop-gain : goal.invariant-loop-gain
invariant-loop-gain l =
    (l.wider.least ≤ 255)
    × (min l.initial.wider.least (least (map (adjust l.mode l.steps.0) l.gains)) ≡ min l.wider.least (least (map (adjust l.mode l.steps.0) (drop l.gain-index l.gains))))
    × (max l.initial.wider.greatest (greatest (map (adjust l.mode l.steps.0) l.gains)) ≡ max l.wider.greatest (greatest (map (adjust l.mode l.steps.0) (drop l.gain-index l.gains))))
