-- The invariant: the lines of the items so far are written, and the rest of them are to come.
use Prim.Native.Nat.{◌-◌}
use Rattle.listing.proofs.Lining.{Lining}
use Rattle.listing.proofs.put_lines.Given as goal

abbrev pub invariant-loop : goal.invariant-loop
invariant-loop l = Lining l.area l.count l.initial.out l.at l.out l.from (l.count - l.counter) l.end
