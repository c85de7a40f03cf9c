-- What an edit answers, by the tests that led there.
use Prim.Native.Nat.{ℕ, ◌≤◌, ◌<◌}
use mathlib.Core.Path.{◌≡◌, sym, ap, ◌∙◌}
use mathlib.Core.Bool.{true, false}
use Rattle.std.specs.Prelude.{Ok, Err}
use mathlib.Core.List.{List}
use lib.ListN.{length}
use lib.Dec.{leb}
use borrow.Author.Tests.{le-leb, lt-leb}
use Rattle.lists.specs.Choice.{is_some}
use Rattle.lists.specs.Write.{over}
use Rattle.lists.proofs.Same.{and-false}
use Rattle.replies.specs.Limits.{file_limit}
use Rattle.replies.specs.Refusal.{Plan, no, yes}
use Rattle.replies.specs.declared.Refusal.{Refusal}
use Rattle.replies.specs.declared.Refusal.TheVariants.{MalformedArea, BadKey, NotUtf8, NoRoom}
use Rattle.utf8.specs.Utf8.{valid}
use Rattle.keys.specs.Keys.{is_key}
use Rattle.items.specs.Items.{Item, area_bytes, parse, items_in, set_item}
use Rattle.area_edit.specs.Edits.{fits, edited, answer, bytes, set_plan}
use Rattle.items.specs.declared.Size.{Size}

-- ---- the room

pub fits-yes : (room : ℕ) (ts : List Item) → length (area_bytes ts) ≤ room → length (area_bytes ts) ≤ file_limit → fits room ts ≡ true
fits-yes room ts h g = rw (le-leb _ _ h, le-leb _ _ g)

pub fits-room : (room : ℕ) (ts : List Item) → room < length (area_bytes ts) → fits room ts ≡ false
fits-room room ts h = rw (lt-leb _ _ h)

pub fits-long : (room : ℕ) (ts : List Item) → file_limit < length (area_bytes ts) → fits room ts ≡ false
fits-long room ts h = rw (lt-leb _ _ h) (and-false (leb (length (area_bytes ts)) room))

-- ---- by the tests of set

module _ (n : ℕ) (s : List ℕ) (room : ℕ) where
  module _ (key value : List ℕ) where
    pub set-12 : is_some (parse n s) ≡ false → set_plan key value n s room ≡ no MalformedArea
    unfolding edited
    set-12 a = rw a

    pub set-3 : is_some (parse n s) ≡ true → is_key key ≡ false → set_plan key value n s room ≡ no BadKey
    unfolding edited
    set-3 a k = rw (a, k)

    module _ (a : is_some (parse n s) ≡ true) (k : is_key key ≡ true) where
      pub set-4 : valid value ≡ false → set_plan key value n s room ≡ no NotUtf8
      unfolding edited
      set-4 v = rw (a, k, v)

      pub set-5 : valid value ≡ true → fits room (set_item key value (items_in n s)) ≡ false → set_plan key value n s room ≡ no NoRoom
      unfolding edited
      set-5 v r = rw (a, k, v, r)

      pub set-yes : valid value ≡ true → fits room (set_item key value (items_in n s)) ≡ true → set_plan key value n s room ≡ yes (set_item key value (items_in n s))
      unfolding edited
      set-yes v r = rw (a, k, v, r)

-- ---- what a function ensures that refuses, and one that is done

pub refused : {p : Plan (List Item)} {r : Refusal} (out : List ℕ) → p ≡ no r → (Err r ≡ answer p) × (out ≡ over (bytes p) out)
refused out e = (ap answer (sym e), ap (λ p. over (bytes p) out) (sym e))

pub finished : {p : Plan (List Item)} {ts : List Item} {z : Size} (out : List ℕ) {out' : List ℕ} → p ≡ yes ts → z.count ≡ length ts → z.length ≡ length (area_bytes ts) → out' ≡ over (area_bytes ts) out
    → (Ok z ≡ answer p) × (out' ≡ over (bytes p) out)
finished {p} {ts} {z} out {out'} e n m o = (rw (e, ← n, ← m), o ∙ ap (λ p. over (bytes p) out) (sym e))
