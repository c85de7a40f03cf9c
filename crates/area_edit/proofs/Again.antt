-- An edit that is done: what it wrote is well formed, and reads as the new items.
use Prim.Native.Nat.{ℕ, ◌-◌, ◌≤◌}
use native.Mathlib.Omega.{arith}
use mathlib.Core.Path.{◌≡◌, refl, sym, ap, ◌∙◌}
use mathlib.Core.Bool.{Bool, true, false, and-eq-true_iff}
use Rattle.std.specs.Prelude.{Some, Ok}
use mathlib.Core.List.{List}
use lib.ListN.{length, take}
use lib.Seq.{take_at}
use lib.Dec.{leb}
use borrow.Author.Tests.{leb-true}
use Rattle.lists.specs.Bytes.{Small}
use Rattle.lists.specs.Choice.{is_some}
use Rattle.lists.specs.Write.{over}
use Rattle.replies.specs.Limits.{file_limit}
use Rattle.replies.specs.Refusal.{Plan, no, yes}
use Rattle.replies.specs.declared.Refusal.{Refusal}
use Rattle.utf8.specs.Utf8.{valid}
use Rattle.keys.specs.Keys.{is_key}
use Rattle.items.specs.Items.{Item, area_bytes, parse, items_in, set_item}
use Rattle.items.proofs.Area.{AllSane, parse-area}
use Rattle.items.proofs.ItemLaws.{sane-set, sane-key, parse-sane}
use Rattle.area_edit.specs.Edits.{fits, answer, bytes, set_plan}
use Rattle.items.specs.declared.Size.{Size}
use Rattle.area_edit.proofs.Plans.{set-12, set-3, set-4, set-5, set-yes}

-- ---- an answer says what the plan is

pub record Did (p : Plan (List Item)) (z : Size) : Type 0 where
  pub items : List Item
  pub is : p ≡ yes items
  pub count : z.count ≡ length items
  pub size : z.length ≡ length (area_bytes items)

pub did : (p : Plan (List Item)) (z : Size) → Ok z ≡ answer p → Did p z
did (no r) z e = absurd (cc)
did (yes ts) z e =
    let q : z ≡ record { count = length ts; length = length (area_bytes ts) } = cc in
    record { items = ts; is = refl; count = ap (λ x. x.count) q; size = ap (λ x. x.length) q }

-- what stands in the output up to the length answered
pub written : {p : Plan (List Item)} {z : Size} (d : Did p z) (out xs : List ℕ) → xs ≡ over (bytes p) out → take (z.length - 0) xs ≡ area_bytes d.items
written {p} {z} d out xs e =
    ap (take (z.length - 0)) (e ∙ ap (λ q. over (bytes q) out) d.is) ∙ take_at (area_bytes d.items) _ (z.length - 0) (omega (arith, d.size))

-- ---- the new items

-- they can be read back, and fit
pub record Fine (room : ℕ) (ts : List Item) : Type 0 where
  pub sane : AllSane ts
  pub fit : length (area_bytes ts) ≤ room
  pub small : length (area_bytes ts) ≤ file_limit

-- they are read back
pub again : {room : ℕ} {ts : List Item} (f : Fine room ts) → parse (length ts) (area_bytes ts) ≡ Some ts
again {room} {ts} f = parse-area ts f.sane (omega (arith, f.small))

pub fitted : (room : ℕ) (ts : List Item) → AllSane ts → fits room ts ≡ true → Fine room ts
fitted room ts s e =
    let (p, q) = (and-eq-true_iff (leb (length (area_bytes ts)) room) (leb (length (area_bytes ts)) file_limit)).0 e in
    record { sane = s; fit = leb-true _ _ p; small = leb-true _ _ q }

-- a plan that is refused is not done
pub clash : {A : Type 0} {p : Plan (List Item)} {r : Refusal} {ts : List Item} → p ≡ yes ts → p ≡ no r → A
clash e f = absurd (let z : ◌≡◌ {A = ℕ} 0 1 = cc in omega arith)

module _ (n : ℕ) (s : List ℕ) (small : Small s) (room : ℕ) (ts : List Item) where
  pub set-done : (key value : List ℕ) → set_plan key value n s room ≡ yes ts → (is_some (parse n s) ≡ true) × (ts ≡ set_item key value (items_in n s)) × Fine room ts
  set-done key value e = go (is_some (parse n s)) (is_key key) (valid value) (fits room (set_item key value (items_in n s))) refl refl refl refl
    where
      go : (a k v r : Bool) → is_some (parse n s) ≡ a → is_key key ≡ k → valid value ≡ v → fits room (set_item key value (items_in n s)) ≡ r
          → (is_some (parse n s) ≡ true) × (ts ≡ set_item key value (items_in n s)) × Fine room ts
      go false k v r x y z w = clash e (set-12 n s room key value x)
      go true false v r x y z w = clash e (set-3 n s room key value x y)
      go true true false r x y z w = clash e (set-4 n s room key value x y z)
      go true true true false x y z w = clash e (set-5 n s room key value x y z w)
      go true true true true x y z w =
          let q : yes (set_item key value (items_in n s)) ≡ yes ts = sym (set-yes n s room key value x y z w) ∙ e in
          let i : set_item key value (items_in n s) ≡ ts = cc in
          (x, sym i, rw (← i) (fitted room (set_item key value (items_in n s)) (sane-set key value (items_in n s) (sane-key key y) (parse-sane n s small)) w))
