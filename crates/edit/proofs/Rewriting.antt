-- Laws of the last tests: refusal 6, or what is left.
use Prim.Native.Nat.{ℕ, ◌≤◌, ◌<◌}
use mathlib.Core.Path.{◌≡◌, refl}
use mathlib.Core.Bool.{Bool, true, false}
use mathlib.Core.List.{List}
use lib.ListN.{length}
use lib.Dec.{leb}
use borrow.Author.Tests.{le-leb, lt-leb}
use Rattle.replies.specs.Limits.{count_limit}
use Rattle.replies.specs.Refusal.{no}
use Rattle.replies.specs.declared.Refusal.TheVariants.{TagTooLarge}
use Rattle.items.specs.Items.{Item, area_bytes}
use Rattle.ape_replace.specs.Answers.{room_plan}
use Rattle.calls.specs.Gate.{tag_fits}
use Rattle.edit.specs.Finish.{tag_plan}

module _ (file : List ℕ) (ts : List Item) (room : ℕ) where
  pub too_many : count_limit < length ts → tag_plan file ts room ≡ no TagTooLarge
  unfolding tag_plan tag_fits
  too_many h = rw (lt-leb _ _ h)

  pub too_long : 32768 < length (area_bytes ts) → tag_plan file ts room ≡ no TagTooLarge
  unfolding tag_plan tag_fits
  too_long h = go (leb (length ts) count_limit) refl
    where
      go : (b : Bool) → leb (length ts) count_limit ≡ b → tag_plan file ts room ≡ no TagTooLarge
      go true e = rw (e, lt-leb _ _ h)
      go false e = rw e

  pub fits-tag : length ts ≤ count_limit → length (area_bytes ts) ≤ 32768 → tag_plan file ts room ≡ room_plan file ts room
  unfolding tag_plan tag_fits room_plan
  fits-tag h k = rw (le-leb _ _ h, le-leb _ _ k)
