-- The invariant: the first n bytes of the word stand in front of the output, and the rest of them from i.
use Prim.Native.Nat.{◌≤◌}
use mathlib.Core.Path.{◌≡◌}
use lib.ListN.{length, drop}
use lib.Seq.{paste}
use Rattle.words.specs.Words.{hex_bytes}
use Rattle.words.proofs.hex_bytes.Given as goal

abbrev pub invariant-loop-n : goal.invariant-loop-n
invariant-loop-n l =
    let w = hex_bytes (drop l.at l.text) in
    (l.n ≤ length w) × (l.out ≡ paste l.initial.out 0 w l.n) × (drop l.n w ≡ hex_bytes (drop l.i l.text))
