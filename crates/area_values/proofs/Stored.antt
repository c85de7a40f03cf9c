-- What the first undo item says, by what was found.
use Prim.Native.Nat.{ℕ}
use mathlib.Core.Path.{◌≡◌, refl}
use mathlib.Core.Bool.{Bool, true, false}
use Rattle.std.specs.Prelude.{ℤ, Option, option_map, Result, Ok, Err}
use mathlib.Core.List.{List}
use Rattle.lists.specs.Bytes.{Small}
use Rattle.lists.specs.Choice.{is_some}
use Rattle.replies.specs.declared.Refusal.{Refusal}
use Rattle.keys.specs.Keys.{undo_key}
use Rattle.keys.proofs.Keys.{undo-keys}
use Rattle.items.specs.Items.{parse, items_in, is_repeated}
use Rattle.items.specs.Answers.{find_of, value_of}
use Rattle.items.specs.declared.Found.{Found}
use Rattle.items.proofs.Places.{find-get}
use Rattle.area_values.specs.Undo.{steps_of, undo_gain_of}

-- what is answered by what was found
abbrev pub gain_from : List ℕ → Result (Option Found) Refusal → Result (Option ℤ) Refusal
gain_from s (Ok o) = Ok (steps_of (option_map (value_of s) o))
gain_from s (Err r) = Err r

module _ (s : List ℕ) (n : ℕ) (b : Small s) where
  pub undo-is : gain_from s (find_of s n undo_key) ≡ undo_gain_of s n
  unfolding undo_gain_of find_of
  undo-is = go (is_some (parse n s)) refl
    where
      go : (t : Bool) → is_some (parse n s) ≡ t → gain_from s (find_of s n undo_key) ≡ undo_gain_of s n
      go false e = rw e
      go true e = rw (e, undo-keys.0, ← find-get s n undo_key b e (is_repeated undo_key (items_in n s)))
