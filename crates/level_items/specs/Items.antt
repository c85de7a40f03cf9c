-- The items that level leaves, step by step, and what it means that they were written.
use Rattle.std.specs.Prelude.{ℕ, ◌≡◌, List, length}
use Rattle.lists.specs.Write.{over}
use Rattle.keys.specs.Keys.{undo_key, minmax_key}
use Rattle.values.specs.declared.UndoValues.{UndoValues}
use Rattle.values.specs.declared.Range.{Range}
use Rattle.values.specs.Undo.{format_undo}
use Rattle.values.specs.Range.{format_range}
use Rattle.items.specs.Items.{Item, area_bytes, set_item}
use Rattle.items.specs.declared.Size.{Size}
use Rattle.calls.specs.Calls.{Level, wraps, shifted_items}

-- an edit that makes these items answers their number and size, and writes them to the front of its output
abbrev pub Wrote : List Item → List ℕ → Size → List ℕ → Type 0
Wrote ts out r after = (r.count ≡ length ts) × (r.length ≡ length (area_bytes ts)) × (after ≡ over (area_bytes ts) out)

-- stored values moved or dropped, then these undo numbers set
unfoldable pub undone_items : Level → UndoValues → List Item → List Item
undone_items l u ts = set_item undo_key (format_undo u.left u.right (wraps l.mode)) (shifted_items l ts)

-- then this range
unfoldable pub ranged_items : Level → UndoValues → Range → List Item → List Item
ranged_items l u r ts = set_item minmax_key (format_range r) (undone_items l u ts)
