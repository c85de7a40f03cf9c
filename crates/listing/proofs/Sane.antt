-- The items that are read have keys without a zero byte, so they are read back from their area.
use Prim.Native.Nat.{ℕ, zero, suc, ◌+◌, ◌-◌, ◌*◌, ◌≤◌}
use native.Mathlib.Omega.{arith}
use mathlib.Core.Path.{◌≡◌, refl, ap, ◌∙◌}
use mathlib.Core.Bool.{Bool, true, false, ◌&&◌, cond}
use Rattle.std.specs.Prelude.{Option, None, Some}
use mathlib.Core.List.{List, [], ◌∷◌, ◌++◌}
use lib.ListN.{length, take, drop, length-take, length-drop}
use lib.Dec.{eqb, leb}
use Rattle.lists.specs.Bytes.{Small, place_of}
use Rattle.lists.proofs.Places.{small-drop}
use Rattle.utf8.specs.declared.Part.{Part}
use Rattle.utf8.specs.declared.Part.TheVariants.{Good, Bad, End}
use Rattle.utf8.specs.Utf8.{step_of, size, after}
use Rattle.lossy.specs.Lossy.{text_of, lossy_from, lossy}
use Rattle.lossy.proofs.Lists.{small-take}
use Rattle.items.specs.Items.{Item, Head, head, area_bytes, size_of}
use Rattle.items.proofs.Area.{AllSane, whole}
use Rattle.ape.specs.Tag.{find_footer, footed, version_at, size_at, count_at, area_at, read_items, read_tag}
use Rattle.ape.proofs.Reading.{read-long}

-- no byte is zero
abbrev NoZero : List ℕ → Type 0
NoZero [] = Unit {0}
NoZero (x ∷ s) = (eqb x 0 ≡ false) × NoZero s

both : (a b : List ℕ) → NoZero a → NoZero b → NoZero (a ++ b)
both [] b x y = y
both (c ∷ a) b (x, xs) y = (x, both a b xs y)

front : (n : ℕ) (s : List ℕ) → NoZero s → NoZero (take n s)
front zero s x = tt
front (suc n) [] x = tt
front (suc n) (c ∷ s) (x, xs) = (x, front n s xs)

before-zero : (s : List ℕ) → NoZero (take (place_of 0 s) s)
unfolding place_of
before-zero [] = tt
before-zero (c ∷ s) = go (eqb c 0) refl (before-zero s)
  where
    go : (t : Bool) → eqb c 0 ≡ t → NoZero (take (place_of 0 s) s) → NoZero (take (cond t 0 (suc (place_of 0 s))) (c ∷ s))
    go true e ih = tt
    go false e ih = (e, ih)

no_place : (s : List ℕ) → NoZero s → place_of 0 s ≡ length s
unfolding place_of
no_place [] x = refl
no_place (c ∷ s) (x, xs) = rw (x, no_place s xs)

lossy-part : (x : Part) (s : List ℕ) → NoZero s → NoZero (text_of x s)
lossy-part (Good n) s z = front n s z
lossy-part (Bad n) s z = (refl, (refl, (refl, tt)))
lossy-part End s z = tt

lossy-from : (k : ℕ) (s : List ℕ) → NoZero s → NoZero (lossy_from k s)
unfolding lossy_from
lossy-from zero [] z = tt
lossy-from (suc k) [] z = tt
lossy-from (suc k) (b ∷ s) (z, zs) = lossy-from k s zs
lossy-from zero (b ∷ s) (z, zs) =
    both (text_of (step_of (b ∷ s)) (b ∷ s)) (lossy_from (after (size (step_of (b ∷ s)))) s) (lossy-part (step_of (b ∷ s)) (b ∷ s) (z, zs)) (lossy-from (after (size (step_of (b ∷ s)))) s zs)

key-sane : (s : List ℕ) (h : Head) → head s ≡ Some h → place_of 0 (lossy h.item.key) ≡ length (lossy h.item.key)
unfolding lossy
key-sane s h e =
    let w = whole s h e in
    let k : h.item.key ≡ take (place_of 0 (drop 8 s)) (drop 8 s) = w.key-is ∙ ap (λ (i : ℕ). take i (drop 8 s)) w.key-long in
    no_place (lossy_from 0 h.item.key) (lossy-from 0 h.item.key (rw k (before-zero (drop 8 s))))

read-sane : (n : ℕ) (s : List ℕ) → Small s → AllSane (read_items n s)
unfolding read_items
read-sane zero s b = tt
read-sane (suc n) s b = go (head s) refl (λ r. read-sane n r)
  where
    go : (o : Option Head) → head s ≡ o → ((r : List ℕ) → Small r → AllSane (read_items n r)) → AllSane (read_items (suc n) s)
    go None e ih = rw e tt
    go (Some h) e ih =
        let w = whole s h e in
        let r : Small h.rest = rw w.after (small-drop s (size_of h.item) b) in
        rw e ((key-sane s h e, omega (arith, w.flags-are, b 4, b 5, b 6, b 7)), ih h.rest r)

-- what the items of a file's tag are: they can be read back, and they have at most three times the file's bytes
module _ (file : List ℕ) (ts : List Item) where
  abbrev here : ℕ → List Item
  here f = read_items (count_at file f) (area_at file f)

  area-short : (f : ℕ) → length (area_at file f) ≤ length file
  unfolding area_at
  area-short f = simp (length-take, length-drop) (omega arith)

  area_small : (f : ℕ) → Small file → Small (area_at file f)
  unfolding area_at
  area_small f b = small-take (size_at file f - 32) (drop (f + 32 - size_at file f) file) (small-drop file (f + 32 - size_at file f) b)

  good : (f : ℕ) (b : Bool) → cond b (Some (here f)) None ≡ Some ts → (Small file → AllSane ts) × (length (area_bytes ts) ≤ 3 * length file)
  good f true q =
      let z : here f ≡ ts = cc in
      (λ b. rw z at (read-sane (count_at file f) (area_at file f) (area_small f b)), omega (arith, ap (λ us. length (area_bytes us)) z, read-long (count_at file f) (area_at file f), area-short f))
  good f false q = absurd (let z : ◌≡◌ {A = ℕ} 0 1 = cc in omega arith)

  pub tag-items : read_tag file ≡ Some ts → (Small file → AllSane ts) × (length (area_bytes ts) ≤ 3 * length file)
  unfolding read_tag
  tag-items e = go (find_footer file) e
    where
      go : (x : Option ℕ) → footed x None (λ f. cond (eqb (version_at file f) 2000 && leb (size_at file f) (f + 32)) (Some (here f)) None) ≡ Some ts
          → (Small file → AllSane ts) × (length (area_bytes ts) ≤ 3 * length file)
      go None q = absurd (let z : ◌≡◌ {A = ℕ} 0 1 = cc in omega arith)
      go (Some f) q = good f (eqb (version_at file f) 2000 && leb (size_at file f) (f + 32)) q
