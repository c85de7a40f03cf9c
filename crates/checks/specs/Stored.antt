-- What the first undo item of an area says.
use Rattle.std.specs.Prelude.{ℕ, cond, List}
use Rattle.std.specs.Prelude.{Result, Ok, Err}
use Rattle.lists.specs.Choice.{found}
use Rattle.values.specs.Undo.{parse_undo, undo_wraps}
use Rattle.replies.specs.declared.Refusal.{Refusal}
use Rattle.replies.specs.declared.Refusal.TheVariants.{NoUndo, SecondUndo}
use Rattle.keys.specs.Keys.{undo_key}
use Rattle.items.specs.Items.{Item, is_repeated}
use Rattle.calls.specs.Calls.{stored_undo}
use Rattle.checks.specs.declared.StoredUndo.{StoredUndo}

-- the numbers and the flag of a stored undo text
abbrev pub said : List ℕ → StoredUndo
said s = record { left = (parse_undo s).left; right = (parse_undo s).right; wrap = undo_wraps s }

-- those of the undo item of a tag: refusals 14, for a second one, and 10, for none
unfoldable pub undo_of : List Item → Result StoredUndo Refusal
undo_of ts = cond (is_repeated undo_key ts) (Err SecondUndo) (found (stored_undo ts) (Err NoUndo) (λ s. Ok (said s)))
