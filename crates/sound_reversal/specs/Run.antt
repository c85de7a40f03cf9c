-- A list of level calls on the sound of an MP3 (document 02, request 5).
use Rattle.std.specs.Prelude.{ℕ, Bool, List, [], ◌∷◌, ◌++◌, get_or}
use Rattle.replies.specs.Refusal.{Plan, no, yes}
use Rattle.slip.specs.declared.Wish.{Wish}
use Rattle.calls.specs.Calls.{Level, Levelled, asked}
use Rattle.reversal.specs.Run.{Call, level, Side, on_left, on_right, is_yes, level_if, WrapsIf, LandsIf}
use Rattle.sound_calls.specs.Sound.{sound_left, sound_right, level_mp3_plan}

-- a level call: two steps and a mode, named or not, with the length of its output
pub record Asked : Type 0 where
  pub wish : Wish
  pub room : ℕ

-- the same call on lists of gains, for this file
abbrev pub call_of : List ℕ → Asked → Call
call_of file a = level (asked a.wish file) a.room

-- the gains of a side in a file
abbrev pub sound_on : Side → List ℕ → List ℕ
sound_on on_left file = sound_left file
sound_on on_right file = sound_right file

-- what the call is on a file
abbrev pub plan_of : List ℕ → Asked → Plan Levelled
plan_of file a = level_mp3_plan file a.wish a.room

-- does the table of replies accept it?
unfoldable pub accepts : List ℕ → Asked → Bool
accepts file a = is_yes (plan_of file a)

-- the file after a call: a refused one leaves it
abbrev pub after : List ℕ → Plan Levelled → List ℕ
after file (no r) = file
after file (yes o) = o.out

-- the file that a call leaves
unfoldable pub next : List ℕ → Asked → List ℕ
next file a = after file (plan_of file a)

-- each call gets the file that the one before left
unfoldable pub run : List ℕ → List Asked → List ℕ
run file [] = file
run file (a ∷ as') = run (next file a) as'

-- the accepted calls
unfoldable pub accepted : List ℕ → List Asked → List Level
accepted file [] = []
accepted file (a ∷ as') = level_if (accepts file a) (call_of file a) ++ accepted (next file a) as'

-- the accepted calls wrapped
unfoldable pub Wrapped : List ℕ → List Asked → Type 0
Wrapped file [] = Unit {0}
Wrapped file (a ∷ as') = WrapsIf (accepts file a) (call_of file a) × Wrapped (next file a) as'

-- every accepted call took gain i of a side, before clamping, to 1 through 255
unfoldable pub Landed : Side → ℕ → List ℕ → List Asked → Type 0
Landed side i file [] = Unit {0}
Landed side i file (a ∷ as') = LandsIf (accepts file a) (call_of file a) side (get_or (sound_on side file) i 0) × Landed side i (next file a) as'
