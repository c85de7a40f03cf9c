-- What the reading of a file that is short enough to be listed answers: nothing is refused, and the items are read back from their area.
use Prim.Native.Nat.{ℕ, ◌+◌, ◌-◌, ◌*◌, ◌≤◌, ◌<◌}
use native.Mathlib.Omega.{arith}
use mathlib.Core.Path.{◌≡◌, refl, ap, ◌∙◌}
use mathlib.Core.Bool.{Bool, true, false, ◌&&◌, cond}
use Rattle.std.specs.Prelude.{Option, None, Some, Result, Ok, Err}
use mathlib.Core.List.{List, [], ◌∷◌, ◌++◌}
use lib.ListN.{length, take, length-take}
use lib.Seq.{take_at}
use lib.Dec.{leb, eqb}
use borrow.Author.Tests.{le-leb, lt-leb}
use Rattle.lists.specs.Bytes.{Small, ascii}
use Rattle.lists.specs.Write.{over}
use Rattle.replies.specs.Refusal.{yes}
use Rattle.replies.specs.declared.Refusal.{Refusal}
use Rattle.decimal.specs.Writing.{decimal}
use Rattle.items.specs.Items.{Item, area_bytes, parse}
use Rattle.items.proofs.Area.{read_back}
use Rattle.ape.specs.Tag.{find_footer, version_at, size_at, count_at, area_at, read_items, read_tag}
use Rattle.ape.specs.Answers.{read_area, read_plan, read_answer}
use Rattle.items.specs.declared.Size.{Size}
use Rattle.ape.proofs.Reading.{read-long}
use Rattle.listing.specs.Listing.{lines, listed, listing}
use Rattle.listing.proofs.Sane.{tag-items}

-- the items of a tag have at most three times the file's bytes
pub area-fits : (file : List ℕ) → length (read_area (read_tag file)) ≤ 3 * length file
area-fits file = go (read_tag file) refl
  where
    go : (o : Option (List Item)) → read_tag file ≡ o → length (read_area o) ≤ 3 * length file
    go None e = omega arith
    go (Some ts) e = omega (arith, (tag-items file ts e).1)

-- and at most three times the bytes that the footer says
pub tag_fits : (file : List ℕ) (f : ℕ) → find_footer file ≡ Some f → length (read_area (read_tag file)) ≤ 3 * (size_at file f - 32)
unfolding read_tag area_at
tag_fits file f e = rw e (go (eqb (version_at file f) 2000 && leb (size_at file f) (f + 32)))
  where
    go : (b : Bool) → length (read_area (cond b (Some (read_items (count_at file f) (area_at file f))) None)) ≤ 3 * (size_at file f - 32)
    go true =
        let l : length (area_at file f) ≤ size_at file f - 32 = simp length-take (omega arith) in
        omega (arith, read-long (count_at file f) (area_at file f))
    go false = omega arith

module _ (file : List ℕ) (h : length file ≤ 16384) where
  pub read-yes : (n : ℕ) → length (read_area (read_tag file)) ≤ n → read_plan file n ≡ yes (read_tag file)
  unfolding read_plan
  read-yes n k = rw (le-leb (length file) 16777216 (omega (arith, h)), le-leb (length (read_area (read_tag file))) n k, le-leb (length (read_area (read_tag file))) 16777216 (omega (arith, area-fits file, h)))

  pub short-listing : listing file ≡ listed (read_tag file)
  unfolding listing
  short-listing = rw (le-leb _ 16384 h)

-- the answer tells what was read
pub record Read (o : Option (List Item)) (n l : ℕ) : Type 0 where
  pub items : List Item
  pub is : o ≡ Some items
  pub counted : n ≡ length items
  pub long : l ≡ length (area_bytes items)

pub read-items : (o : Option (List Item)) {t : Result (Option Size) Refusal} {z : Size} → t ≡ read_answer (yes o) → t ≡ Ok (Some z) → Read o z.count z.length
read-items None e f = absurd (let z : ◌≡◌ {A = ℕ} 0 1 = cc in omega arith)
read-items (Some ts) {z = z} e f =
    let same : z ≡ record { count = length ts; length = length (area_bytes ts) } = cc in
    record { items = ts; is = refl; counted = ap (λ (x : Size). x.count) same; long = ap (λ (x : Size). x.length) same }

pub read_none : (o : Option (List Item)) {t : Result (Option Size) Refusal} → t ≡ read_answer (yes o) → t ≡ Ok None → o ≡ None
read_none None e f = refl
read_none (Some ts) e f = absurd (let z : ◌≡◌ {A = ℕ} 0 1 = cc in omega arith)

pub read-refused : (o : Option (List Item)) {t : Result (Option Size) Refusal} {r : Refusal} → t ≡ read_answer (yes o) → t ≡ Err r → ⊥
read-refused None e f = let z : ◌≡◌ {A = ℕ} 0 1 = cc in absurd (omega arith)
read-refused (Some ts) e f = let z : ◌≡◌ {A = ℕ} 0 1 = cc in absurd (omega arith)

-- the items stand at the front of the array
pub items_back : (file : List ℕ) → Small file → length file ≤ 16384 → {n l : ℕ} (x : Read (read_tag file) n l) (new old : List ℕ) → new ≡ over (read_area (read_tag file)) old
    → (parse n (take l new) ≡ Some x.items) × (length (take l new) ≡ l) × (l ≤ 3 * length file)
items_back file b h {n} {l} x new old e =
    let f = tag-items file x.items x.is in
    let w : new ≡ over (area_bytes x.items) old = e ∙ ap (λ o. over (read_area o) old) x.is in
    let t : take l new ≡ area_bytes x.items =
    ap (λ (s : List ℕ). take l s) w ∙ take_at (area_bytes x.items) _ l (omega (arith, x.long)) in (
      read_back x.items new old l n w x.long x.counted (f.0 b) (omega (arith, f.1, h)),
      omega (arith, ap length t, x.long),
      omega (arith, f.1, x.long),
    )

pub long-listing : (file : List ℕ) → 16384 < length file → listing file ≡ 0x72 ∷ 0x65 ∷ 0x66 ∷ 0x75 ∷ 0x73 ∷ 0x65 ∷ 0x64 ∷ 0x3D ∷ 0x31 ∷ 0x0A ∷ []
unfolding listing
long-listing file h = rw (lt-leb _ 16384 h)

pub items-listing : (ts : List Item) (n : ℕ) → length ts ≡ n → listed (Some ts) ≡ ((ascii "items=" ++ decimal 1 9 n) ++ (0x0A ∷ [])) ++ lines ts
unfolding listed
items-listing ts n e = rw e

pub none-listing : listed None ≡ 0x69 ∷ 0x74 ∷ 0x65 ∷ 0x6D ∷ 0x73 ∷ 0x3D ∷ 0x6E ∷ 0x6F ∷ 0x6E ∷ 0x65 ∷ 0x0A ∷ []
unfolding listed
none-listing = refl
