-- What an edit that drops items answers, by the tests that led there.
use Prim.Native.Nat.{ℕ}
use mathlib.Core.Path.{◌≡◌, refl, sym, ap, ◌∙◌}
use mathlib.Core.Bool.{true, false}
use Rattle.std.specs.Prelude.{Option, None, Some}
use mathlib.Core.List.{List, []}
use lib.ListN.{length}
use Rattle.lists.specs.Choice.{is_some}
use Rattle.replies.specs.Refusal.{no, yes}
use Rattle.replies.specs.declared.Refusal.TheVariants.{MalformedArea, BadKey, NoRoom}
use Rattle.keys.specs.Keys.{same_key, is_key}
use Rattle.items.specs.Items.{Item, area_bytes, parse, items_in}
use Rattle.area_edit.specs.Edits.{fits, edited}
use Rattle.area_drop.specs.Drops.{measured_of, remove_plan, drop_plan}
use Rattle.items.specs.declared.Size.{Size}
use Rattle.std.proofs.lemmas.Option.{none-some, same_Some}

-- ---- by the tests of each call

module _ (n : ℕ) (s : List ℕ) (room : ℕ) where
  -- an edit without tests of its own
  module _ (f : List Item → List Item) where
    pub edit-12 : is_some (parse n s) ≡ false → edited [] f n s room ≡ no MalformedArea
    unfolding edited
    edit-12 a = rw a

    pub edit-5 : is_some (parse n s) ≡ true → fits room (f (items_in n s)) ≡ false → edited [] f n s room ≡ no NoRoom
    unfolding edited
    edit-5 a r = rw (a, r)

    pub edit-yes : is_some (parse n s) ≡ true → fits room (f (items_in n s)) ≡ true → edited [] f n s room ≡ yes (f (items_in n s))
    unfolding edited
    edit-yes a r = rw (a, r)

  module _ (key : List ℕ) where
    pub remove-12 : is_some (parse n s) ≡ false → remove_plan key n s room ≡ no MalformedArea
    unfolding edited
    remove-12 a = rw a

    pub remove-3 : is_some (parse n s) ≡ true → is_key key ≡ false → remove_plan key n s room ≡ no BadKey
    unfolding edited
    remove-3 a k = rw (a, k)

    -- a removal by a good key drops its matches
    pub remove-good : is_key key ≡ true → remove_plan key n s room ≡ drop_plan (same_key key) n s room
    unfolding edited
    remove-good k = rw k

-- ---- what a measure says of the area

pub record Sized (f : List Item → List Item) (n : ℕ) (s : List ℕ) (z : Size) : Type 0 where
  pub some : is_some (parse n s) ≡ true
  pub count : z.count ≡ length (f (items_in n s))
  pub length : z.length ≡ length (area_bytes (f (items_in n s)))

module _ (f : List Item → List Item) (n : ℕ) (s : List ℕ) where
  pub sized : (z : Size) → Some z ≡ measured_of f n s → Sized f n s z
  sized z e = go (parse n s) refl
    where
      go : (o : Option (List Item)) → parse n s ≡ o → Sized f n s z
      go None q = absurd (none-some z (sym (e ∙ rw q)))
      go (Some ts) q =
          let y : z ≡ record { count = length (f ts); length = length (area_bytes (f ts)) } = same_Some _ _ (e ∙ rw q) in
          record { some = rw q; count = rw q (ap (λ x. x.count) y); length = rw q (ap (λ x. x.length) y) }

  pub unsized : None ≡ measured_of f n s → is_some (parse n s) ≡ false
  unsized e = go (parse n s) refl
    where
      go : (o : Option (List Item)) → parse n s ≡ o → is_some (parse n s) ≡ false
      go None q = rw q
      go (Some ts) q = absurd (none-some (record { count = length (f ts); length = length (area_bytes (f ts)) }) (e ∙ rw q))
