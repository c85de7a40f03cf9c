-- A list of level, set and remove calls, and the book that stands for its edits alone (demand 3, and document 01, "Level and undo").
use Rattle.std.specs.Prelude.{ℕ, ◌≡◌, Bool, true, false, List, [], ◌∷◌, ◌++◌, map, get_or, ℤ, pos, ◌+ℤ◌}
use Rattle.replies.specs.Refusal.{Plan, no, yes}
use Rattle.frame.specs.declared.GainMode.TheVariants.{Wrapping}
use Rattle.frame.specs.Steps.{Lands}
use Rattle.items.specs.Items.{Item, set_item, remove_item}
use Rattle.calls.specs.Calls.{set_plan, remove_plan, Level, Levelled, level_plan}
use Rattle.book.specs.Book.{Book, book_of}

-- ---- edits

-- set a key to a value, or remove a key, with the length of the output
pub data Edit : Type 0 where
  set : List ℕ → List ℕ → ℕ → Edit
  remove : List ℕ → ℕ → Edit

-- the key that an edit names
abbrev pub key_of : Edit → List ℕ
key_of (set key value room) = key
key_of (remove key room) = key

-- what an edit makes of items
abbrev pub edit_items : Edit → List Item → List Item
edit_items (set key value room) ts = set_item key value ts
edit_items (remove key room) ts = remove_item key ts

-- what an edit of a file is: refused, or the file that it writes
unfoldable pub edit_plan : List ℕ → Edit → Plan (List ℕ)
edit_plan file (set key value room) = set_plan file key value room
edit_plan file (remove key room) = remove_plan file key room

-- an accepted edit changes a book's items; a refused edit changes nothing
unfoldable pub feed : Book → Edit → Bool → Book
feed b e false = b
feed b e true = record { front = b.front; items = edit_items e b.items; back = b.back }

-- ---- calls

-- a call with its arguments and its own output length
pub data Call : Type 0 where
  level : Level → ℕ → Call
  edit : Edit → Call

-- what a call gets from the one before
pub record State : Type 0 where
  pub file : List ℕ
  pub left : List ℕ
  pub right : List ℕ

-- ---- either side

-- the left or the right side
pub data Side : Type 0 where
  on_left : Side
  on_right : Side

-- the step of a level call on a side
abbrev pub step_on : Side → Level → ℤ
step_on on_left l = l.left
step_on on_right l = l.right

-- the gains of a side
abbrev pub gains_on : Side → State → List ℕ
gains_on on_left s = s.left
gains_on on_right s = s.right

-- ---- one call

-- a level call: refused, or the state that it leaves, from what it gives
abbrev pub level_to : Plan Levelled → Plan State
level_to (no r) = no r
level_to (yes o) = yes (record { file = o.out; left = o.left; right = o.right })

-- an edit: refused, or the state with the file that it writes; the gains stay
abbrev pub edit_to : State → Plan (List ℕ) → Plan State
edit_to s (no r) = no r
edit_to s (yes w) = yes (record { file = w; left = s.left; right = s.right })

-- a call on the file and the gains that it gets
unfoldable pub outcome : State → Call → Plan State
outcome s (level l room) = level_to (level_plan s.file s.left s.right l room)
outcome s (edit e) = edit_to s (edit_plan s.file e)

-- is it done, not refused?
abbrev pub is_yes : {A : Type 0} → Plan A → Bool
is_yes (no r) = false
is_yes (yes a) = true

-- the state after a call: after a refused one all stays
abbrev pub after : State → Plan State → State
after s (no r) = s
after s (yes t) = t

-- does the table of replies accept it?
unfoldable pub accepts : State → Call → Bool
accepts s c = is_yes (outcome s c)

-- the state that a call leaves
unfoldable pub next : State → Call → State
next s c = after s (outcome s c)

-- ---- a list of calls

-- each call gets what the one before left
unfoldable pub run : State → List Call → State
run s [] = s
run s (c ∷ cs) = run (next s c) cs

-- the call, if it is an accepted level call
abbrev pub level_if : Bool → Call → List Level
level_if true (level l room) = l ∷ []
level_if true (edit e) = []
level_if false c = []

-- the call, if it is an accepted edit
abbrev pub edit_if : Bool → Call → List Edit
edit_if true (level l room) = []
edit_if true (edit e) = e ∷ []
edit_if false c = []

-- the accepted level calls of a list
unfoldable pub accepted_levels : State → List Call → List Level
accepted_levels s [] = []
accepted_levels s (c ∷ cs) = level_if (accepts s c) c ++ accepted_levels (next s c) cs

-- the accepted edits of a list
unfoldable pub accepted_edits : State → List Call → List Edit
accepted_edits s [] = []
accepted_edits s (c ∷ cs) = edit_if (accepts s c) c ++ accepted_edits (next s c) cs

-- the accepted edits of a list, called alone with the same output lengths
unfoldable pub edits_alone : State → List Call → List Call
edits_alone s cs = map edit (accepted_edits s cs)

-- ---- the book of a list

-- a book is fed each edit, and whether it is accepted on the file that it gets in the list; level calls leave it
abbrev pub feed_call : Book → Call → Bool → Book
feed_call b (level l room) t = b
feed_call b (edit e) t = feed b e t

-- a book fed each call of a list
unfoldable pub fed : Book → State → List Call → Book
fed b s [] = b
fed b s (c ∷ cs) = fed (feed_call b c (accepts s c)) (next s c) cs

-- begun with the first file
unfoldable pub book_after : State → List Call → Book
book_after s cs = fed (book_of s.file) s cs

-- ---- what the accepted level calls did

-- the call, if it is an accepted level call, wrapped
abbrev pub WrapsIf : Bool → Call → Type 0
WrapsIf true (level l room) = l.mode ≡ Wrapping
WrapsIf true (edit e) = Unit {0}
WrapsIf false c = Unit {0}

-- the call, if it is an accepted level call, took the gain g, before clamping, to 1 through 255
abbrev pub LandsIf : Bool → Call → Side → ℕ → Type 0
LandsIf true (level l room) side g = Lands (pos g +ℤ step_on side l)
LandsIf true (edit e) side g = Unit {0}
LandsIf false c side g = Unit {0}

-- the accepted level calls wrapped
unfoldable pub Wrapped : State → List Call → Type 0
Wrapped s [] = Unit {0}
Wrapped s (c ∷ cs) = WrapsIf (accepts s c) c × Wrapped (next s c) cs

-- every accepted level call took gain i of a side, before clamping, to 1 through 255
unfoldable pub Landed : Side → ℕ → State → List Call → Type 0
Landed side i s [] = Unit {0}
Landed side i s (c ∷ cs) = LandsIf (accepts s c) c side (get_or (gains_on side s) i 0) × Landed side i (next s c) cs
