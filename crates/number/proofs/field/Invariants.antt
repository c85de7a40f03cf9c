-- The invariant: what is looked for is a field of the rest from at, as many further on as there are turns left.
use mathlib.Core.Path.{◌≡◌}
use Prim.Native.Nat.{◌≤◌, ◌-◌}
use lib.ListN.{length, drop}
use Rattle.number.specs.Fields.{field}
use Rattle.number.proofs.field.Given as goal

abbrev pub invariant-loop : goal.invariant-loop
invariant-loop l = (l.at ≤ length l.s) × (field l.n l.s ≡ field (l.n - l.counter) (drop l.at l.s))
