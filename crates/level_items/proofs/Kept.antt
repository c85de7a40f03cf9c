-- Kept peaks counted one item after another.
use Prim.Native.Nat.{ℕ, ◌+◌}
use native.Mathlib.Omega.{arith}
use mathlib.Core.Path.{◌≡◌, refl}
use mathlib.Core.Bool.{Bool, true, false, not}
use Rattle.std.specs.Prelude.{Option, None, Some, option_map, is_none}
use mathlib.Core.List.{List, [], ◌∷◌}
use lib.IntN.{ℤ}
use Rattle.lists.specs.Choice.{is_some}
use Rattle.decimal.specs.Writing.{text_of}
use Rattle.items.specs.Items.{Item, text_item}
use Rattle.calls.specs.Calls.{count_items, keeps_peak}

module _ (p : Item → Bool) where
  pub count_none : count_items p [] ≡ 0
  unfolding count_items
  count_none = refl

  pub count-one : (t : Item) (ts : List Item) → p t ≡ true → count_items p (t ∷ ts) ≡ 1 + count_items p ts
  unfolding count_items
  count-one t ts e = rw e

  pub count_next : (t : Item) (ts : List Item) → p t ≡ false → count_items p (t ∷ ts) ≡ count_items p ts
  unfolding count_items
  count_next t ts e = rw e (omega arith)

-- flags do not matter
pub kept_any : (z : ℤ) (t : Item) → keeps_peak z (text_item t.key t.value) ≡ keeps_peak z t
unfolding keeps_peak
kept_any z t = refl

-- a text that no shift gives is kept
pub unmoved : (o : Option (List ℕ)) → is_none (option_map text_of o) ≡ not (is_some o)
unmoved None = refl
unmoved (Some w) = refl
