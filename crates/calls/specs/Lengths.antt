-- How long the file would be that a call writes (document 02, request 8).
use Rattle.std.specs.Prelude.{ℕ, ◌≤◌, ◌<◌, ◌≡◌, List, length}
use Rattle.replies.specs.Limits.{file_limit}
use Rattle.replies.specs.Refusal.{Plan, no, yes}
use Rattle.replies.specs.declared.Refusal.{Refusal}
use Rattle.replies.specs.declared.Refusal.TheVariants.{NoRoom}
use Rattle.calls.specs.Calls.{set_plan, remove_plan, Level, Levelled, level_plan, slip_plan, undo_plan}

-- an output that is never too short: with it refusal 5 comes from the limit of a file alone
abbrev pub unlimited : ℕ
unlimited = file_limit

-- the size of what a call gives, or its refusal
abbrev pub size_plan : {A : Type 0} → (A → ℕ) → Plan A → Plan ℕ
size_plan size (no r) = no r
size_plan size (yes a) = yes (size a)

-- the length of the file that level or undo gives
abbrev pub file_length : Levelled → ℕ
file_length x = length x.out

-- set
unfoldable pub set_length : List ℕ → List ℕ → List ℕ → Plan ℕ
set_length file key value = size_plan length (set_plan file key value unlimited)

-- remove
unfoldable pub remove_length : List ℕ → List ℕ → Plan ℕ
remove_length file key = size_plan length (remove_plan file key unlimited)

-- level
unfoldable pub level_length : List ℕ → List ℕ → List ℕ → Level → Plan ℕ
level_length file left right l = size_plan file_length (level_plan file left right l unlimited)

-- level by a slip
unfoldable pub slip_length : List ℕ → List ℕ → List ℕ → List ℕ → Plan ℕ
slip_length slip file left right = size_plan file_length (slip_plan slip file left right unlimited)

-- undo
unfoldable pub undo_length : List ℕ → List ℕ → List ℕ → Plan ℕ
undo_length file left right = size_plan file_length (undo_plan file left right unlimited)

-- what a length says of its call, by the room that the call is lent
pub record Foretells {A : Type 0} (size : A → ℕ) (call : ℕ → Plan A) : Type 0 where
  -- lent so many bytes or more, it gives one result of that size, whatever the room
  pub enough : (n : ℕ) → size_plan size (call unlimited) ≡ yes n → (room : ℕ) → n ≤ room → (call room ≡ call unlimited)
  -- lent fewer, it answers 5
  pub short : (n : ℕ) → size_plan size (call unlimited) ≡ yes n → (room : ℕ) → room < n → call room ≡ no NoRoom
  -- a refusal is the call's, lent any room
  pub refused : (r : Refusal) → size_plan size (call unlimited) ≡ no r → (room : ℕ) → call room ≡ no r
