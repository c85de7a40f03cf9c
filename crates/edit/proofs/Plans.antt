-- Laws of set and remove on a file: each refusal by the tests before it, and what is left when all of those hold.
use Prim.Native.Nat.{ℕ, ◌≤◌, ◌<◌}
use native.Mathlib.Omega.{arith}
use mathlib.Core.Path.{◌≡◌, ◌∙◌}
use mathlib.Core.Bool.{true, false}
use mathlib.Core.List.{List}
use lib.ListN.{length}
use borrow.Author.Tests.{le-leb, lt-leb}
use Rattle.replies.specs.Refusal.{no}
use Rattle.replies.specs.declared.Refusal.TheVariants.{FileTooLong, BadKey, NotUtf8, NotEditable, TagTooLarge}
use Rattle.utf8.specs.Utf8.{valid}
use Rattle.keys.specs.Keys.{is_key}
use Rattle.items.specs.Items.{set_item, remove_item}
use Rattle.items.proofs.Places.{set_holds}
use Rattle.calls.specs.Gate.{passes_gate, items_of}
use Rattle.calls.specs.Calls.{set_plan, remove_plan}
use Rattle.edit.specs.Finish.{tag_plan}
use Rattle.edit.proofs.Rewriting.{too_long}

module _ (file key value : List ℕ) (room : ℕ) where
  pub set-1 : 16777216 < length file → set_plan file key value room ≡ no FileTooLong
  unfolding set_plan
  set-1 h = rw (lt-leb _ _ h)

  pub remove-1 : 16777216 < length file → remove_plan file key room ≡ no FileTooLong
  unfolding remove_plan
  remove-1 h = rw (lt-leb _ _ h)

  module _ (l : length file ≤ 16777216) where
    pub set-3 : is_key key ≡ false → set_plan file key value room ≡ no BadKey
    unfolding set_plan
    set-3 e = rw (le-leb _ _ l, e)

    pub remove-3 : is_key key ≡ false → remove_plan file key room ≡ no BadKey
    unfolding remove_plan
    remove-3 e = rw (le-leb _ _ l, e)

    module _ (k : is_key key ≡ true) where
      pub remove-8 : passes_gate file ≡ false → remove_plan file key room ≡ no NotEditable
      unfolding remove_plan
      remove-8 e = rw (le-leb _ _ l, k, e)

      pub remove-rest : passes_gate file ≡ true → remove_plan file key room ≡ tag_plan file (remove_item key (items_of file)) room
      unfolding remove_plan tag_plan
      remove-rest e = rw (le-leb _ _ l, k, e)

      pub set-4 : valid value ≡ false → set_plan file key value room ≡ no NotUtf8
      unfolding set_plan
      set-4 e = rw (le-leb _ _ l, k, e)

      module _ (v : valid value ≡ true) where
        pub set-8 : passes_gate file ≡ false → set_plan file key value room ≡ no NotEditable
        unfolding set_plan
        set-8 e = rw (le-leb _ _ l, k, v, e)

        pub set_rest : passes_gate file ≡ true → set_plan file key value room ≡ tag_plan file (set_item key value (items_of file)) room
        unfolding set_plan tag_plan
        set_rest e = rw (le-leb _ _ l, k, v, e)

        -- a value that is longer than all items may be
        pub set-6 : passes_gate file ≡ true → 32768 < length value → set_plan file key value room ≡ no TagTooLarge
        set-6 e h =
            set_rest e ∙ too_long file (set_item key value (items_of file)) room (omega (arith, set_holds key value (items_of file)))
