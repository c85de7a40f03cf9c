-- What the call answers, by the tests that led there.
use Prim.Native.Nat.{ℕ, ◌+◌, ◌≤◌, ◌<◌}
use native.Mathlib.Omega.{arith}
use mathlib.Core.Path.{◌≡◌, refl, sym, ◌∙◌}
use mathlib.Core.Bool.{Bool, true, false}
use mathlib.Core.List.{List}
use lib.ListN.{length}
use lib.Dec.{leb}
use borrow.Author.Tests.{leb-true, leb-false}
use Rattle.lists.specs.Choice.{is_some}
use Rattle.replies.specs.Limits.{file_limit}
use Rattle.replies.specs.Refusal.{no, yes}
use Rattle.replies.specs.declared.Refusal.TheVariants.{MalformedArea, NotUtf8, NoRoom}
use Rattle.items.specs.Items.{Item, area_bytes, parse, items_in}
use Rattle.area_edit.specs.Edits.{fits, edited}
use Rattle.area_edit.proofs.Plans.{fits-room, fits-long}
use Rattle.area_gains.specs.Gains.{set_each, present, all_valid, set_gains_plan, capped}
use Rattle.area_gains.proofs.Rest.{capped-in, capped-out}

module _ (texts : List (List ℕ)) (n : ℕ) (s : List ℕ) (room : ℕ) where
  pub gains-12 : is_some (parse n s) ≡ false → set_gains_plan texts n s room ≡ no MalformedArea
  unfolding edited
  gains-12 a = rw a

  module _ (a : is_some (parse n s) ≡ true) where
    pub gains-4 : all_valid texts ≡ false → set_gains_plan texts n s room ≡ no NotUtf8
    unfolding edited
    gains-4 v = rw (a, v)

    pub gains-5 : all_valid texts ≡ true → fits room (set_each (present texts) (items_in n s)) ≡ false → set_gains_plan texts n s room ≡ no NoRoom
    unfolding edited
    gains-5 v r = rw (a, v, r)

    pub gains-yes : all_valid texts ≡ true → fits room (set_each (present texts) (items_in n s)) ≡ true → set_gains_plan texts n s room ≡ yes (set_each (present texts) (items_in n s))
    unfolding edited
    gains-yes v r = rw (a, v, r)

-- ---- the room, by the size that was measured

-- a size up to the limit is itself
pub capped_small : (n r : ℕ) → r ≡ capped n → r ≤ file_limit → n ≡ r
capped_small n r e h = go (leb n file_limit) refl
  where
    go : (t : Bool) → leb n file_limit ≡ t → n ≡ r
    go true f = sym (e ∙ capped-in n (leb-true _ _ f))
    go false f = let p : r ≡ file_limit + 1 = e ∙ capped-out n (leb-false _ _ f) in absurd (omega arith)

module _ (room : ℕ) (ts : List Item) (r : ℕ) (e : r ≡ capped (length (area_bytes ts))) where
  pub gains-long : file_limit < r → fits room ts ≡ false
  gains-long h = go (leb (length (area_bytes ts)) file_limit) refl
    where
      go : (t : Bool) → leb (length (area_bytes ts)) file_limit ≡ t → fits room ts ≡ false
      go true f = let p : r ≡ length (area_bytes ts) = e ∙ capped-in _ (leb-true _ _ f) in let l : length (area_bytes ts) ≤ file_limit = leb-true _ _ f in absurd (omega arith)
      go false f = fits-long room ts (leb-false _ _ f)

  pub gains-room : room < r → fits room ts ≡ false
  gains-room h = go (leb r file_limit) refl
    where
      go : (t : Bool) → leb r file_limit ≡ t → fits room ts ≡ false
      go true f = let p = capped_small (length (area_bytes ts)) r e (leb-true _ _ f) in fits-room room ts (omega arith)
      go false f = gains-long (leb-false _ _ f)
