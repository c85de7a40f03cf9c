-- A list of calls that meets demand 3's terms: accepted calls of each kind, and refused ones.
use Rattle.std.specs.Prelude.{List, [], ◌∷◌, pos, negsuc}
use Rattle.lists.specs.Bytes.{ascii}
use Rattle.frame.specs.declared.GainMode.TheVariants.{Saturating, Wrapping}
use Rattle.ape.specs.Tag.{serialize}
use Rattle.calls.specs.Calls.{Level}
use Rattle.calls.specs.Figures.{flagged, by, fives}
use Rattle.reversal.specs.Run.{set, remove, Call, level, edit, State}

-- three bytes, a read-only picture that is not UTF-8, and gains of which one begins at 0 and one will be clamped
unfoldable pub start : State
start = record { file = 1 ∷ 2 ∷ 3 ∷ serialize (flagged 3 (ascii "Cover") (0xFF ∷ 0xD8 ∷ []) ∷ []); left = 10 ∷ 0 ∷ 252 ∷ []; right = 7 ∷ [] }

-- unequal steps
abbrev pub apart_by : Level
apart_by = by (negsuc 2) (pos 4) Saturating

-- the second call is refused for its room, the fourth for its flag
unfoldable pub calls : List Call
calls =
    edit (set (ascii "Title") (ascii "x") 100)
    ∷ edit (set (ascii "Note") (ascii "y") 10)
    ∷ level fives 1000
    ∷ level (by (pos 1) (pos 1) Wrapping) 1000
    ∷ edit (set (ascii "NOTE") (ascii "z") 1000)
    ∷ level apart_by 1000
    ∷ edit (remove (ascii "title") 1000)
    ∷ []
