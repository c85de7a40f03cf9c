-- A text that was formatted, set as the value of an item.
use Prim.Native.Nat.{ℕ, ◌≤◌}
use native.Mathlib.Omega.{arith}
use mathlib.Core.Path.{◌≡◌, ap, ◌∙◌}
use mathlib.Core.List.{List}
use lib.ListN.{length, take}
use Rattle.replies.specs.Limits.{file_limit}
use Rattle.decimal.specs.Writing.{text_of}
use Rattle.decimal.specs.declared.Text.{Text}
use Rattle.decimal.proofs.Texts.{text-part}
use Rattle.items.specs.Items.{Item, area_bytes, set_item}
use Rattle.items.specs.declared.Size.{Size}
use Rattle.level_items.specs.Items.{Wrote}

-- v is what is lent of the text of w
module _ (t : Text) (w : List ℕ) (e : t ≡ text_of w) (v : List ℕ) (f : v ≡ take t.len t.bytes) (key : List ℕ) (ts : List Item) where
  lent : v ≡ w
  lent = f ∙ text-part t w e

  same : set_item key v ts ≡ set_item key w ts
  same = ap (λ (v : List ℕ). set_item key v ts) lent

  -- the text is short, and the items fit where they do with it
  pub text-fits : (out : List ℕ) → length w ≤ 32 → length (area_bytes (set_item key w ts)) ≤ length out
      → (length v ≤ file_limit) × (length (area_bytes (set_item key v ts)) ≤ length out)
  text-fits out h k = (omega (arith, ap length lent), omega (arith, ap (λ us. length (area_bytes us)) same))

  pub text-wrote : (out after : List ℕ) (r : Size) → Wrote (set_item key v ts) out r after → Wrote (set_item key w ts) out r after
  text-wrote out after r h = rw same at h
