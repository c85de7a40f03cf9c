-- The invariant: the word is the hex of the bytes exactly if what is left of it from i is that of the bytes from b on.
use mathlib.Core.Path.{◌≡◌}
use lib.ListN.{drop}
use Rattle.lists.specs.Bytes.{same}
use Rattle.words.specs.Words.{hex_bytes}
use Rattle.words.proofs.is_hex.Given as goal

abbrev pub invariant-loop-b : goal.invariant-loop-b
invariant-loop-b l = same (hex_bytes (drop l.at l.text)) l.bytes ≡ same (hex_bytes (drop l.i l.text)) (drop l.b-index l.bytes)
