-- What the faces that read a key or an area answer and leave in their lent numbers. A refusal leaves them.
use Rattle.std.specs.Prelude.{ℕ, Bool, true, false, ℤ, pos, Option, None, Some, Result, Ok, Err}
use Rattle.replies.specs.Refusal.{number_of}
use Rattle.replies.specs.declared.Refusal.{Refusal}
use Rattle.replies.specs.declared.Refusal.TheVariants.{MalformedArea}
use Rattle.items.specs.declared.Stepped.{Stepped}
use Rattle.items.specs.declared.Stepped.TheVariants.{Item, End, Malformed}
use Rattle.items.specs.declared.Found.{Found}

-- a step: the reply, whether an item is there, its flags, and where its key and its value start and end
pub record ItemFace : Type 0 where
  pub reply : ℕ
  pub there : ℕ
  pub flags : ℕ
  pub key_start : ℕ
  pub key_end : ℕ
  pub value_start : ℕ
  pub value_end : ℕ

-- from the answer of the step, and what the lent numbers held
abbrev pub item_face : Stepped → ℕ → ℕ → ℕ → ℕ → ℕ → ℕ → ItemFace
item_face (Item f a b c d) there flags ks ke vs ve = record { reply = 0; there = 1; flags = f; key_start = a; key_end = b; value_start = c; value_end = d }
item_face End there flags ks ke vs ve = record { reply = 0; there = 0; flags = 0; key_start = 0; key_end = 0; value_start = 0; value_end = 0 }
item_face Malformed there flags ks ke vs ve =
    record { reply = number_of MalformedArea; there = there; flags = flags; key_start = ks; key_end = ke; value_start = vs; value_end = ve }

-- get: the reply, whether a value is there, where it starts, how long it is, and whether a later item has the key too
pub record FoundFace : Type 0 where
  pub reply : ℕ
  pub there : ℕ
  pub start : ℕ
  pub size : ℕ
  pub repeated : ℕ

-- 1 or 0
abbrev pub one_if : Bool → ℕ
one_if true = 1
one_if false = 0

-- from the answer of get, and what the lent numbers held
abbrev pub found_face : Result (Option Found) Refusal → ℕ → ℕ → ℕ → ℕ → FoundFace
found_face (Ok (Some f)) there start size repeated = record { reply = 0; there = 1; start = f.start; size = f.length; repeated = one_if f.repeated }
found_face (Ok None) there start size repeated = record { reply = 0; there = 0; start = 0; size = 0; repeated = 0 }
found_face (Err r) there start size repeated = record { reply = number_of r; there = there; start = start; size = size; repeated = repeated }

-- the undo steps: the reply, whether they are there, and the number
pub record GainFace : Type 0 where
  pub reply : ℕ
  pub there : ℕ
  pub steps : ℤ

-- from the answer about the undo steps, and what the lent numbers held
abbrev pub gain_face : Result (Option ℤ) Refusal → ℕ → ℤ → GainFace
gain_face (Ok (Some n)) there steps = record { reply = 0; there = 1; steps = n }
gain_face (Ok None) there steps = record { reply = 0; there = 0; steps = pos 0 }
gain_face (Err r) there steps = record { reply = number_of r; there = there; steps = steps }
