-- A run of characters: from one place of a text to another it is valid.
use Rattle.std.specs.Prelude.{ℕ, zero, suc, ◌+◌, ◌≤◌, ◌≡◌, true, List, length, drop}
use Rattle.lists.specs.Write.{part}
use Rattle.utf8.specs.declared.Part.{Part}
use Rattle.utf8.specs.declared.Part.TheVariants.{Bad, End}
use Rattle.utf8.specs.Utf8.{step_of, valid}

-- characters stand from one place to the other
pub record Stretch (s : List ℕ) (from to : ℕ) : Type 0 where
  pub order : from ≤ to
  pub inside : to ≤ length s
  pub good : valid (part from to s) ≡ true

-- where a run stops: at an ill-formed part of so many bytes, or, with none, at the end
abbrev pub stop_of : ℕ → Part
stop_of zero = End
stop_of (suc n) = Bad (suc n)

-- characters stand from `from` to `end`, and there the run stops
pub record Ran (s : List ℕ) (from end bad : ℕ) : Type 0 where
  pub stretch : Stretch s from end
  pub inside : end + bad ≤ length s
  pub stop : step_of (drop end s) ≡ stop_of bad
