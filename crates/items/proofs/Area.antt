-- Items that were written are read back, and items that were read are what was written.
use Prim.Native.Nat.{ℕ, zero, suc, ◌+◌, ◌-◌, ◌*◌, ◌≤◌, ◌<◌}
use native.Mathlib.Omega.{arith}
use native.Mathlib.Numerals.{add-one}
use mathlib.Core.Path.{◌≡◌, refl, sym, ap, ◌∙◌}
use mathlib.Core.Bool.{Bool, true, false, cond, true≢false}
use Rattle.std.specs.Prelude.{Option, None, Some, option_map}
use mathlib.Core.List.{List, [], ◌∷◌, ◌++◌, append_assoc}
use lib.ListN.{length, take, drop, length-append, length-drop, take-append-drop}
use lib.Seq.{drop-append-add, take-append_seam, drop-append_seam, drop-drop, length-take-le, take_at}
use lib.Dec.{eqb, leb}
use borrow.Author.Tests.{le-leb, leb-true, leb-false, eqb-true, eq-eqb, ne_eqb}
use Rattle.lists.specs.Bytes.{Small, place_of}
use Rattle.lists.specs.Choice.{found, is_some}
use Rattle.lists.specs.Le.{u32le, read_u32}
use Rattle.lists.specs.Write.{over}
use Rattle.lists.proofs.Places.{place-within, place-behind, small-drop}
use Rattle.lists.proofs.Numbers.{read_here, read-drop, number-here}
use Rattle.items.specs.Items.{Item, item_bytes, area_bytes, size_of, Head, head_at, head, parse, items_in}

-- ---- what was written is read

-- an item that can be read back: no zero byte in its key, and its flags are a number of four bytes
abbrev pub Sane : Item → Type 0
Sane t = (place_of 0 t.key ≡ length t.key) × (t.flags < 4294967296)

-- items that can be read back
abbrev pub AllSane : List Item → Type 0
AllSane [] = Unit {0}
AllSane (t ∷ ts) = Sane t × AllSane ts

head-at : (k v s : List ℕ) (f : ℕ) → place_of 0 k ≡ length k
    → head_at (length v) f (k ++ (0 ∷ (v ++ s))) ≡ Some (record { item = record { key = k; value = v; flags = f }; rest = s })
unfolding head_at
head-at k v s f z =
    rw (
      place-behind 0 k (v ++ s) z,
      length-append,
      length-append,
      le-leb (length k + 1 + length v) (length k + suc (length v + length s)) (omega arith),
      take-append_seam,
      drop-append-add,
      take-append_seam,
      drop-append_seam,
    )

pub flat : (t : Item) (s : List ℕ) → item_bytes t ++ s ≡ u32le (length t.value) ++ (u32le t.flags ++ (t.key ++ (0 ∷ (t.value ++ s))))
unfolding item_bytes
flat t s = simp append_assoc

read-second : (n g : ℕ) (b : List ℕ) → g < 4294967296 → read_u32 (u32le n ++ (u32le g ++ b)) 4 ≡ g
read-second n g b h = omega arith

head-flat : (n g : ℕ) (b : List ℕ) → n < 4294967296 → g < 4294967296 → head (u32le n ++ (u32le g ++ b)) ≡ head_at n g b
unfolding head
head-flat n g b h f = ap (λ (m : ℕ). head_at m (read_u32 (u32le n ++ (u32le g ++ b)) 4) b) (read_here n (u32le g ++ b) h) ∙ ap (λ (m : ℕ). head_at n m b) (read-second n g b f)

pub head-item : (t : Item) (s : List ℕ) → Sane t → length t.value < 4294967296 → head (item_bytes t ++ s) ≡ Some (record { item = t; rest = s })
head-item t s (z, f) h = rw (flat t s, head-flat (length t.value) t.flags _ h f, head-at t.key t.value s t.flags z)

pub length-item : (t : Item) → length (item_bytes t) ≡ size_of t
unfolding item_bytes
length-item t = simp length-append (omega arith)

pub length-area : (t : Item) (ts : List Item) → length (area_bytes (t ∷ ts)) ≡ size_of t + length (area_bytes ts)
unfolding area_bytes
length-area t ts = rw (length-append, length-item)

-- the items of an area are read back
pub parse-area : (ts : List Item) → AllSane ts → length (area_bytes ts) < 4294967296 → parse (length ts) (area_bytes ts) ≡ Some ts
unfolding parse area_bytes
parse-area [] ok h = refl
parse-area (t ∷ ts) ok h =
    let l : length (item_bytes t) + length (area_bytes ts) < 4294967296 = rw length-append at h in
    rw (head-item t (area_bytes ts) ok.0 (omega (arith, length-item t)), parse-area ts ok.1 (omega arith))

-- ---- what was read is what was written

-- the zero byte that ends a key
pub zero-there : (s : List ℕ) → place_of 0 s < length s → s ≡ take (place_of 0 s) s ++ (0 ∷ drop (suc (place_of 0 s)) s)
unfolding place_of
zero-there [] h = absurd (omega arith)
zero-there (x ∷ s) h = go (eqb x 0) refl h (zero-there s)
  where
    go : (t : Bool) → eqb x 0 ≡ t → cond t 0 (suc (place_of 0 s)) < suc (length s) → (place_of 0 s < length s → s ≡ take (place_of 0 s) s ++ (0 ∷ drop (suc (place_of 0 s)) s))
        → x ∷ s ≡ take (cond t 0 (suc (place_of 0 s))) (x ∷ s) ++ (0 ∷ drop (suc (cond t 0 (suc (place_of 0 s)))) (x ∷ s))
    go true e h ih = ap (λ y. y ∷ s) (eqb-true x 0 e)
    go false e h ih = ap (λ r. x ∷ r) (ih (omega arith))

-- ---- an item that was read

-- what h is, as the first item of s
pub record Whole (s : List ℕ) (h : Head) : Type 0 where
  pub long : size_of h.item ≤ length s
  pub after : h.rest ≡ drop (size_of h.item) s
  pub key-long : length h.item.key ≡ place_of 0 (drop 8 s)
  pub key-is : h.item.key ≡ take (length h.item.key) (drop 8 s)
  pub value-long : length h.item.value ≡ read_u32 s 0
  pub value-is : h.item.value ≡ take (length h.item.value) (drop (9 + length h.item.key) s)
  pub flags-are : h.item.flags ≡ read_u32 s 4

-- s has a whole item at its front exactly if this holds
abbrev pub Front : List ℕ → Type 0
Front s = 9 + place_of 0 (drop 8 s) + read_u32 s 0 ≤ length s

fronted : (s : List ℕ) → Front s → place_of 0 (drop 8 s) + 1 + read_u32 s 0 ≤ length (drop 8 s)
fronted s f = rw length-drop (omega arith)

unfronted : (s : List ℕ) → place_of 0 (drop 8 s) + 1 + read_u32 s 0 ≤ length (drop 8 s) → Front s
unfronted s f = let g : place_of 0 (drop 8 s) + 1 + read_u32 s 0 ≤ length s - 8 = rw length-drop at f in omega arith

-- the item at the front of s
abbrev pub front : List ℕ → Head
front s =
    let b = drop 8 s in
    let v = drop (place_of 0 b + 1) b in
    record { item = record { key = take (place_of 0 b) b; value = take (read_u32 s 0) v; flags = read_u32 s 4 }; rest = drop (read_u32 s 0) v }

pub head-front : (s : List ℕ) → Front s → head s ≡ Some (front s)
unfolding head head_at
head-front s f = rw (le-leb _ _ (fronted s f))

pub head-unfit : (s : List ℕ) → (Front s → ⊥) → head s ≡ None
unfolding head head_at
head-unfit s f = go (leb (place_of 0 (drop 8 s) + 1 + read_u32 s 0) (length (drop 8 s))) refl
  where
    go : (t : Bool) → leb (place_of 0 (drop 8 s) + 1 + read_u32 s 0) (length (drop 8 s)) ≡ t → head s ≡ None
    go true e = absurd (f (unfronted s (leb-true _ _ e)))
    go false e = rw e

whole-front : (s : List ℕ) → Front s → Whole s (front s)
whole-front s f =
    let b = drop 8 s in
    let k = place_of 0 b in
    let n = read_u32 s 0 in
    let l : length b ≡ length s - 8 = length-drop 8 s in
    let kl : length (take k b) ≡ k = length-take-le k b (place-within 0 b) in
    let vl : length (take n (drop (k + 1) b)) ≡ n = length-take-le n (drop (k + 1) b) (rw length-drop (omega arith)) in
    let e : 9 + length (take k b) + length (take n (drop (k + 1) b)) ≡ 8 + (k + 1 + n) = omega arith in
    let e' : 9 + length (take k b) ≡ 8 + (k + 1) = omega arith in
    record {
      long = omega arith;
      after = rw e (drop-drop n (k + 1) b ∙ drop-drop (k + 1 + n) 8 s);
      key-long = kl;
      key-is = sym (ap (λ (i : ℕ). take i b) kl);
      value-long = vl;
      value-is = sym (rw (vl, e') (ap (λ (l : List ℕ). take n l) (sym (drop-drop (k + 1) 8 s))));
      flags-are = refl;
    }

-- an item was found where there is one
seen : (s : List ℕ) (h : Head) → head s ≡ Some h → Front s × (front s ≡ h)
seen s h e = go (leb (9 + place_of 0 (drop 8 s) + read_u32 s 0) (length s)) refl
  where
    go : (t : Bool) → leb (9 + place_of 0 (drop 8 s) + read_u32 s 0) (length s) ≡ t → Front s × (front s ≡ h)
    go true p =
        let f : head s ≡ Some (front s) = head-front s (leb-true _ _ p) in
        (leb-true _ _ p, cc)
    go false p =
        let less : length s < 9 + place_of 0 (drop 8 s) + read_u32 s 0 = leb-false _ _ p in
        let f : head s ≡ None = head-unfit s (λ w. absurd (omega arith)) in
        absurd (let z : ◌≡◌ {A = ℕ} 0 1 = cc in omega arith)

pub whole : (s : List ℕ) (h : Head) → head s ≡ Some h → Whole s h
whole s h e = let (f, q) = seen s h e in rw (← q) (whole-front s f)

-- the item's bytes, and what follows it
pub head_bytes : (s : List ℕ) (h : Head) → Small s → head s ≡ Some h → s ≡ item_bytes h.item ++ h.rest
head_bytes s h b e =
    let (f, q) = seen s h e in
    let w = whole-front s f in
    let d = drop 8 s in
    let k = place_of 0 d in
    let n = read_u32 s 0 in
    let l : length d ≡ length s - 8 = length-drop 8 s in
    let l4 : length (drop 4 s) ≡ length s - 4 = length-drop 4 s in
    let one : s ≡ u32le n ++ drop 4 s = number-here s b (omega arith) in
    let g = read_u32 s 4 in
    let flag : read_u32 (drop 4 s) 0 ≡ g = read-drop s 4 0 in
    let two : drop 4 s ≡ u32le g ++ d = number-here (drop 4 s) (small-drop s 4 b) (omega arith) ∙ rw (flag, drop-drop) in
    let three : d ≡ take k d ++ (0 ∷ drop (k + 1) d) = rw add-one (zero-there d (omega arith)) in
    let four : drop (k + 1) d ≡ take n (drop (k + 1) d) ++ drop n (drop (k + 1) d) = sym (take-append-drop n (drop (k + 1) d)) in
    rw (← q) (one ∙ ap (λ (l : List ℕ). u32le n ++ l) (two ∙ ap (λ (l : List ℕ). u32le g ++ l) (three ∙ ap (λ (l : List ℕ). take k d ++ (0 ∷ l)) four)) ∙ ap (λ (m : ℕ). u32le m ++ (u32le g ++ (take k d ++ (0 ∷ (take n (drop (k + 1) d) ++ drop n (drop (k + 1) d)))))) (sym w.value-long) ∙ sym (flat (front s).item (front s).rest))

-- ---- a list of items that was read

pub parse-stop : (n : ℕ) (s : List ℕ) → 0 < n → head s ≡ None → parse n s ≡ None
unfolding parse
parse-stop zero s h e = absurd (omega arith)
parse-stop (suc n) s h e = rw e

pub parse-go : (n m : ℕ) (s : List ℕ) (h : Head) → n ≡ m + 1 → head s ≡ Some h → parse n s ≡ option_map (λ ts. h.item ∷ ts) (parse m h.rest)
unfolding parse
parse-go n m s h l e = rw (l, add-one, e)

-- an area holds at most a ninth of its bytes in items
pub parse-long : (n : ℕ) (s : List ℕ) → length s < 9 * n → parse n s ≡ None
unfolding parse
parse-long zero s l = absurd (omega arith)
parse-long (suc n) s l = go (head s) refl (λ h. parse-long n h.rest)
  where
    go : (o : Option Head) → head s ≡ o → ((h : Head) → length h.rest < 9 * n → parse n h.rest ≡ None) → parse (suc n) s ≡ None
    go None e ih = rw e
    go (Some h) e ih =
        let w = whole s h e in
        let r : length h.rest ≡ length s - size_of h.item = ap length w.after ∙ length-drop (size_of h.item) s in
        rw (e, ih h (omega arith))

pub parse-end : (s : List ℕ) (at : ℕ) → at ≤ length s → is_some (parse 0 (drop at s)) ≡ eqb at (length s)
unfolding parse
parse-end s at h = go (drop at s) refl
  where
    go : (r : List ℕ) → drop at s ≡ r → is_some (parse 0 (drop at s)) ≡ eqb at (length s)
    go [] e = let l : length s - at ≡ 0 = sym (length-drop at s) ∙ ap length e in rw e (sym (eq-eqb at (length s) (omega arith)))
    go (x ∷ r) e = let l : length s - at ≡ suc (length r) = sym (length-drop at s) ∙ ap length e in rw e (sym (ne_eqb at (length s) (λ q. absurd (omega arith))))

pub map-some : {A B : Type 0} (f : A → B) (o : Option A) → is_some (option_map f o) ≡ is_some o
map-some f None = refl
map-some f (Some a) = refl

-- ---- a well-formed area as a whole

pub count-items : (n : ℕ) (s : List ℕ) → is_some (parse n s) ≡ true → length (items_in n s) ≡ n
unfolding parse
count-items zero [] e = refl
count-items zero (x ∷ s) e = absurd (true≢false (sym e))
count-items (suc n) s e = go (head s) refl (λ r. count-items n r)
  where
    inner : (h : Head) (o : Option (List Item)) → is_some (option_map (λ ts. h.item ∷ ts) o) ≡ true → (is_some o ≡ true → length (found o [] (λ ts. ts)) ≡ n)
        → length (found (option_map (λ ts. h.item ∷ ts) o) [] (λ ts. ts)) ≡ suc n
    inner h None e ih = absurd (true≢false (sym e))
    inner h (Some ts) e ih = ap suc (ih refl)

    go : (o : Option Head) → head s ≡ o → ((r : List ℕ) → is_some (parse n r) ≡ true → length (items_in n r) ≡ n) → length (items_in (suc n) s) ≡ suc n
    go None q ih = absurd (true≢false (sym e ∙ rw q))
    go (Some h) q ih = rw q (inner h (parse n h.rest) (rw q at e) (ih h.rest))

-- it is as long as its items
pub area-length : (n : ℕ) (s : List ℕ) → is_some (parse n s) ≡ true → length (area_bytes (items_in n s)) ≡ length s
unfolding parse area_bytes
area-length zero [] e = refl
area-length zero (x ∷ s) e = absurd (true≢false (sym e))
area-length (suc n) s e = go (head s) refl (λ r. area-length n r)
  where
    inner : (h : Head) (o : Option (List Item)) → is_some (option_map (λ ts. h.item ∷ ts) o) ≡ true → (is_some o ≡ true → length (area_bytes (found o [] (λ ts. ts))) ≡ length h.rest)
        → length (area_bytes (found (option_map (λ ts. h.item ∷ ts) o) [] (λ ts. ts))) ≡ size_of h.item + length h.rest
    inner h None e ih = absurd (true≢false (sym e))
    inner h (Some ts) e ih = length-area h.item ts ∙ ap (λ (i : ℕ). size_of h.item + i) (ih refl)

    go : (o : Option Head) → head s ≡ o → ((r : List ℕ) → is_some (parse n r) ≡ true → length (area_bytes (items_in n r)) ≡ length r) → length (area_bytes (items_in (suc n) s)) ≡ length s
    go None q ih = absurd (true≢false (sym e ∙ rw q))
    go (Some h) q ih =
        let w = whole s h q in
        let r : length h.rest ≡ length s - size_of h.item = ap length w.after ∙ length-drop (size_of h.item) s in
        rw q (inner h (parse n h.rest) (rw q at e) (ih h.rest) ∙ omega (arith, w.long))

-- it is the bytes of its items
pub area-items : (n : ℕ) (s : List ℕ) → Small s → is_some (parse n s) ≡ true → area_bytes (items_in n s) ≡ s
unfolding parse area_bytes
area-items zero [] b e = refl
area-items zero (x ∷ s) b e = absurd (true≢false (sym e))
area-items (suc n) s b e = go (head s) refl (λ r. area-items n r)
  where
    inner : (h : Head) (o : Option (List Item)) → is_some (option_map (λ ts. h.item ∷ ts) o) ≡ true → (is_some o ≡ true → area_bytes (found o [] (λ ts. ts)) ≡ h.rest)
        → area_bytes (found (option_map (λ ts. h.item ∷ ts) o) [] (λ ts. ts)) ≡ item_bytes h.item ++ h.rest
    inner h None e ih = absurd (true≢false (sym e))
    inner h (Some ts) e ih = ap (λ (l : List ℕ). item_bytes h.item ++ l) (ih refl)

    go : (o : Option Head) → head s ≡ o → ((r : List ℕ) → Small r → is_some (parse n r) ≡ true → area_bytes (items_in n r) ≡ r) → area_bytes (items_in (suc n) s) ≡ s
    go None q ih = absurd (true≢false (sym e ∙ rw q))
    go (Some h) q ih =
        let w = whole s h q in
        let r : Small h.rest = rw w.after (small-drop s (size_of h.item) b) in
        let f : is_some (option_map (λ ts. h.item ∷ ts) (parse n h.rest)) ≡ true = rw q at e in
        let g : area_bytes (found (option_map (λ ts. h.item ∷ ts) (parse n h.rest)) [] (λ ts. ts)) ≡ item_bytes h.item ++ h.rest = inner h (parse n h.rest) f (ih h.rest r) in
        rw q g ∙ sym (head_bytes s h b q)

pub area-append : (xs ys : List Item) → area_bytes (xs ++ ys) ≡ area_bytes xs ++ area_bytes ys
unfolding area_bytes
area-append [] ys = refl
area-append (x ∷ xs) ys = rw (area-append xs ys, append_assoc)

pub parse-fits : (n : ℕ) (s : List ℕ) → is_some (parse n s) ≡ true → 9 * n ≤ length s
parse-fits n s e = go (leb (9 * n) (length s)) refl
  where
    go : (t : Bool) → leb (9 * n) (length s) ≡ t → 9 * n ≤ length s
    go true q = leb-true _ _ q
    go false q = absurd (true≢false (sym e ∙ ap is_some (parse-long n s (leb-false _ _ q))))

pub parse-none : (s : List ℕ) (ts : List Item) → parse 0 s ≡ Some ts → ts ≡ []
unfolding parse
parse-none [] ts e = cc
parse-none (x ∷ s) ts e = absurd (let z : ◌≡◌ {A = ℕ} 0 1 = cc in omega arith)

-- ---- an area at the front of an array

-- items that were written there are read back
pub read_back : (ts : List Item) (new old : List ℕ) (n c : ℕ) → new ≡ over (area_bytes ts) old → n ≡ length (area_bytes ts) → c ≡ length ts → AllSane ts
    → length (area_bytes ts) < 4294967296 → parse c (take n new) ≡ Some ts
read_back ts new old n c e f g s h =
    ap (λ (l : List ℕ). parse c (take n l)) e
    ∙ ap (parse c) (take_at (area_bytes ts) _ n (omega arith))
    ∙ ap (λ (i : ℕ). parse i (area_bytes ts)) g
    ∙ parse-area ts s h

pub back-good : (c : ℕ) (s : List ℕ) {ts : List Item} → parse c s ≡ Some ts → (is_some (parse c s) ≡ true) × (items_in c s ≡ ts)
back-good c s e = rw e (refl, refl)
