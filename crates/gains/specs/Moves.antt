-- What level is asked, by how the gains move.
use Rattle.calls.specs.Calls.{Level}
use Rattle.gains.specs.declared.Moving.{Moving}

-- the two steps and the mode, as level takes them
abbrev pub level_by : Moving → Level
level_by m = record { left = m.left.0; right = m.right.0; mode = m.mode }
