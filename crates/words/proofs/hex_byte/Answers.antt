use native.Mathlib.Omega.{arith}
use mathlib.Core.Path.{sym}
use lib.ListN.{drop, length-drop}
use Rattle.words.proofs.Hex.{too_short}
use Rattle.words.proofs.hex_byte.Goals as goal
use Rattle.words.proofs.hex_byte.Goals.{then-text-lt2-via-then-text-lt2, then-text-lt2-via-else-text-lt2+then-text-at}

pub returns-then-text-lt2 : goal.returns-then-text-lt2
returns-then-text-lt2 c =
    let g = c.args in
    sym (too_short (drop g.at g.text.now) (rw length-drop
    (elim c.then-text-lt2.branch [ then-text-lt2-via-then-text-lt2 w ↦ omega arith | then-text-lt2-via-else-text-lt2+then-text-at w ↦ omega arith ])))
