-- What the answer of a conversion tells of its length, and the other way round.
use Rattle.std.specs.Prelude.{option_map, Option, None, Some, is_some}
use Prim.Native.Nat.{ℕ, ◌≤◌, ◌<◌, min}
use native.Mathlib.Omega.{arith}
use mathlib.Core.Path.{◌≡◌, refl, sym, ap, ◌∙◌}
use mathlib.Core.Bool.{Bool, true, false, cond, ◌&&◌}
use mathlib.Core.List.{List}
use lib.ListN.{length}
use lib.Dec.{leb, ltb}
use borrow.Author.Tests.{ltb-true, ltb-false, lt-ltb, le-ltb, leb-true, leb-false, le-leb, lt-leb}
use Rattle.lossy.specs.Write.{within}
use Rattle.items.specs.Items.{Item, area_bytes}
use Rattle.items.specs.declared.Size.{Size}
use Rattle.ape.specs.Answers.{measured_as}

module _ (w : List ℕ) (room : ℕ) where
  pub fits_told : {x : Option ℕ} {n : ℕ} → x ≡ option_map length (within room w) → x ≡ Some n → (n ≡ length w) × (length w ≤ room)
  fits_told {x} {n} e f = go (ltb room (length w)) refl
    where
      go : (t : Bool) → ltb room (length w) ≡ t → (n ≡ length w) × (length w ≤ room)
      go true p =
          let q : x ≡ None = e ∙ rw p in
          absurd (let z : ◌≡◌ {A = ℕ} 0 1 = cc in omega arith)
      go false p = let q : x ≡ Some (length w) = e ∙ rw p in (cc, ltb-false _ _ p)

  pub none_told : {x : Option ℕ} → x ≡ option_map length (within room w) → x ≡ None → room < length w
  none_told {x} e f = go (ltb room (length w)) refl
    where
      go : (t : Bool) → ltb room (length w) ≡ t → room < length w
      go true p = ltb-true _ _ p
      go false p =
          let q : x ≡ Some (length w) = e ∙ rw p in
          absurd (let z : ◌≡◌ {A = ℕ} 0 1 = cc in omega arith)

  pub tell-fits : (n : ℕ) → n ≡ length w → length w ≤ room → Some n ≡ option_map length (within room w)
  tell-fits n e h = ap Some e ∙ rw (le-ltb _ _ h)

  pub tell_none : room < length w → None ≡ option_map length (within room w)
  tell_none h = rw (lt-ltb _ _ h)

-- ---- areas that are measured

-- whether an area was measured says whether it has room
pub measured : (room : ℕ) (ts : List Item) → is_some (measured_as room ts) ≡ leb (length (area_bytes ts)) room
measured room ts = go (leb (length (area_bytes ts)) room)
  where
    go : (t : Bool) → is_some {T = Size} (cond t (Some (record { count = length ts; length = length (area_bytes ts) })) None) ≡ t
    go true = refl
    go false = refl

-- ---- refusal 5

-- the room and the limit are one bound
pub room-least : (n a b : ℕ) → leb n (min a b) ≡ (leb n a && leb n b)
room-least n a b = go (leb n a) (leb n b) refl refl
  where
    go : (s t : Bool) → leb n a ≡ s → leb n b ≡ t → leb n (min a b) ≡ (leb n a && leb n b)
    go true true p q =
        let h : n ≤ min a b = omega (arith, leb-true n a p, leb-true n b q) in
        rw (p, q, le-leb _ _ h)
    go true false p q =
        let h : min a b < n = omega (arith, leb-false n b q) in
        rw (p, q, lt-leb _ _ h)
    go false t p q =
        let h : min a b < n = omega (arith, leb-false n a p) in
        rw (p, lt-leb _ _ h)
