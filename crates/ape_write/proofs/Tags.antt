-- Laws of tags: the bytes of a well-formed area's tag, and their length.
use Prim.Native.Nat.{ℕ, zero, suc, ◌+◌, ◌≤◌, ◌<◌}
use native.Mathlib.Omega.{arith}
use mathlib.Core.Path.{◌≡◌, refl}
use mathlib.Core.Bool.{Bool, true, false, cond}
use mathlib.Core.List.{List, [], ◌∷◌}
use lib.ListN.{length, length-append}
use lib.Dec.{eqb}
use borrow.Author.Tests.{eq-eqb, ne_eqb}
use Rattle.lists.specs.Bytes.{Small}
use Rattle.lists.specs.Choice.{is_some}
use Rattle.items.specs.Items.{Item, area_bytes, parse, items_in}
use Rattle.items.proofs.Area.{area-items, count-items}
use Rattle.ape.specs.Tag.{tag_bytes, serialize}
use Rattle.ape.proofs.Files.{length-block}
use Rattle.ape_write.specs.Answers.{tag_parts, tag_length}

pub length-parts : (area : List ℕ) (count : ℕ) → length (tag_parts area count) ≡ length area + 64
unfolding tag_parts
length-parts area count = simp (length-append, length-block) (omega arith)

tag_of : (ts : List Item) (area : List ℕ) (count : ℕ) → area_bytes ts ≡ area → length ts ≡ count → 0 < count → serialize ts ≡ tag_parts area count
unfolding serialize tag_bytes tag_parts
tag_of [] area count e n h = absurd (omega (arith, n))
tag_of (t ∷ ts) area count e n h = rw (e, n)

module _ (area : List ℕ) (count : ℕ) (bytes : Small area) (good : is_some (parse count area) ≡ true) where
  pub serialize-parts : 0 < count → serialize (items_in count area) ≡ tag_parts area count
  serialize-parts h = tag_of (items_in count area) area count (area-items count area bytes good) (count-items count area good) h

  pub serialize-none : count ≡ 0 → serialize (items_in count area) ≡ []
  unfolding serialize
  serialize-none z = go (items_in count area) (count-items count area good)
    where
      go : (ts : List Item) → length ts ≡ count → serialize ts ≡ []
      go [] e = refl
      go (t ∷ ts) e = absurd (omega arith)

  pub serialize-length : length (serialize (items_in count area)) ≡ tag_length (length area) count
  serialize-length = go count refl
    where
      go : (n : ℕ) → count ≡ n → length (serialize (items_in count area)) ≡ tag_length (length area) count
      go zero e = rw (serialize-none e, eq-eqb _ _ e)
      go (suc n) e = rw (serialize-parts (omega arith), ne_eqb count 0 (omega arith)) (length-parts area count)

pub tag-most : (n count : ℕ) → tag_length n count ≤ n + 64
tag-most n count = go (eqb count 0)
  where
    go : (t : Bool) → cond t 0 (n + 64) ≤ n + 64
    go true = omega arith
    go false = omega arith
