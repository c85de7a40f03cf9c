-- An edit that dropped items: the area was well formed, and those that stay read back.
use Prim.Native.Nat.{ℕ}
use mathlib.Core.Path.{◌≡◌, refl, sym, ◌∙◌}
use mathlib.Core.Bool.{Bool, true, false}
use mathlib.Core.List.{List}
use Rattle.lists.specs.Bytes.{Small}
use Rattle.lists.specs.Choice.{is_some}
use Rattle.replies.specs.Refusal.{yes}
use Rattle.keys.specs.Keys.{same_key, is_key}
use Rattle.items.specs.Items.{Item, parse, items_in, without}
use Rattle.items.proofs.ItemLaws.{sane-without, parse-sane}
use Rattle.area_edit.specs.Edits.{fits}
use Rattle.area_edit.proofs.Again.{Fine, fitted, clash}
use Rattle.area_drop.specs.Drops.{remove_plan, drop_plan}
use Rattle.area_drop.proofs.Plans.{edit-12, edit-5, edit-yes, remove-12, remove-3, remove-good}

module _ (n : ℕ) (s : List ℕ) (small : Small s) (room : ℕ) (ts : List Item) where
  -- the area was well formed, and the items are its own without those that go
  pub drop-done : (p : List ℕ → Bool) → drop_plan p n s room ≡ yes ts → (is_some (parse n s) ≡ true) × (ts ≡ without p (items_in n s)) × Fine room ts
  drop-done p e = go (is_some (parse n s)) (fits room (without p (items_in n s))) refl refl
    where
      go : (a r : Bool) → is_some (parse n s) ≡ a → fits room (without p (items_in n s)) ≡ r → (is_some (parse n s) ≡ true) × (ts ≡ without p (items_in n s)) × Fine room ts
      go false r x y = clash e (edit-12 n s room (without p) x)
      go true false x y = clash e (edit-5 n s room (without p) x y)
      go true true x y =
          let q : yes (without p (items_in n s)) ≡ yes ts = sym (edit-yes n s room (without p) x y) ∙ e in
          let i : without p (items_in n s) ≡ ts = cc in
          (x, sym i, rw (← i) (fitted room (without p (items_in n s)) (sane-without p (items_in n s) (parse-sane n s small)) y))

  pub remove-done : (key : List ℕ) → remove_plan key n s room ≡ yes ts → (is_some (parse n s) ≡ true) × (ts ≡ without (same_key key) (items_in n s)) × Fine room ts
  remove-done key e = go (is_some (parse n s)) (is_key key) refl refl
    where
      go : (a k : Bool) → is_some (parse n s) ≡ a → is_key key ≡ k → (is_some (parse n s) ≡ true) × (ts ≡ without (same_key key) (items_in n s)) × Fine room ts
      go false k x y = clash e (remove-12 n s room key x)
      go true false x y = clash e (remove-3 n s room key x y)
      go true true x y = drop-done (same_key key) (sym (remove-good n s room key y) ∙ e)
