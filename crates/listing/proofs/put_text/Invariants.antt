-- The invariant: the first i bytes are printed.
use Rattle.listing.proofs.Printing.{Printing}
use Rattle.listing.proofs.put_text.Given as goal

abbrev pub invariant-loop-b : goal.invariant-loop-b
invariant-loop-b l = Printing l.key l.s l.initial.out l.at l.out l.b-index l.end
