-- The search for the first match, at a place.
use Prim.Native.Nat.{ℕ, ◌+◌, ◌-◌, ◌*◌, ◌≤◌, ◌<◌}
use native.Mathlib.Omega.{arith}
use mathlib.Core.Path.{◌≡◌, refl, sym, ap, ◌∙◌}
use mathlib.Core.Bool.{Bool, true, false, cond}
use Rattle.std.specs.Prelude.{Option, None, Some, option_map, Result, Ok, Err}
use Rattle.replies.specs.declared.Refusal.{Refusal}
use Rattle.replies.specs.declared.Refusal.TheVariants.{MalformedArea}
use mathlib.Core.List.{List, [], ◌∷◌}
use lib.ListN.{length, take, drop}
use lib.Dec.{eqb, ltb}
use Rattle.std.proofs.lemmas.Option.{none-some}
use borrow.Author.Tests.{eq-eqb, ne_eqb, lt-ltb}
use Rattle.lists.specs.Choice.{found, is_some}
use Rattle.keys.specs.Keys.{same_key}
use Rattle.items.specs.Items.{Item, head, size_of, parse, items_in, count_of}
use Rattle.items.specs.Answers.{locate_in, locate_from, locate_of}
use Rattle.items.specs.declared.Place.{Place}
use Rattle.items.proofs.Area.{parse-long, parse-stop, parse-end, parse-none}
use Rattle.items.proofs.Walk.{Taken, fewer, key-part}

-- what the search answers: refused, or a place
abbrev pub Bad : Result (Option Place) Refusal
Bad = Err MalformedArea

abbrev pub done : Option Place → Result (Option Place) Refusal
done o = Ok o

abbrev pub At : ℕ → ℕ → ℕ → Result (Option Place) Refusal
At a k e = Ok (Some (record { start = a; key_end = k; end = e }))

-- how many of them match
abbrev pub count_from : List ℕ → List ℕ → ℕ → ℕ → ℕ
count_from s key at n = count_of (same_key key) (items_in n (drop at s))

pub locate-long : (s key : List ℕ) (n : ℕ) → length s < 9 * n → locate_of s n key ≡ Bad
locate-long s key n h = rw (parse-long n s h)

pub locate-stop : (s key : List ℕ) (at n : ℕ) → 0 < n → head (drop at s) ≡ None → locate_from s key at n ≡ Bad
locate-stop s key at n h e = rw (parse-stop n (drop at s) h e)

module _ {s : List ℕ} {at g a b c d : ℕ} (n m : ℕ) (t : Taken s at g a b c d) (more : n ≡ m + 1) (key : List ℕ) {x : Bool} (e : x ≡ same_key key (take (b - a) (drop a s))) where
  test : (y : Bool) → x ≡ y → same_key key t.head.item.key ≡ y
  test y f = ap (same_key key) (sym (key-part t)) ∙ sym e ∙ f

  opened : (o : Option (List Item)) → found (option_map (λ ts. t.head.item ∷ ts) o) Bad (λ ts. Ok (locate_in key at ts))
      ≡ found o Bad (λ ts. Ok (locate_in key at (t.head.item ∷ ts)))
  opened None = refl
  opened (Some ts) = refl

  here : locate_from s key at n ≡ found (parse m (drop d s)) Bad (λ ts. Ok (locate_in key at (t.head.item ∷ ts)))
  here = ap (λ o. found o Bad (λ ts. Ok (locate_in key at ts))) (fewer n m t more) ∙ opened (parse m (drop d s))

  -- the item has another key
  pub locate-miss : x ≡ false → locate_from s key at n ≡ locate_from s key d m
  unfolding locate_in
  locate-miss f = here ∙ go (parse m (drop d s))
    where
      go : (o : Option (List Item)) → found o Bad (λ ts. Ok (locate_in key at (t.head.item ∷ ts))) ≡ found o Bad (λ ts. Ok (locate_in key d ts))
      go None = refl
      go (Some ts) = rw (test false f) (ap (λ (i : ℕ). done (locate_in key i ts)) (sym t.value-end))

  -- it is the match
  hit : (o : Option (List Item)) → x ≡ true → found o Bad (λ ts. Ok (locate_in key at (t.head.item ∷ ts))) ≡ cond (is_some o) (At at b d) Bad
  unfolding locate_in
  hit None f = refl
  hit (Some ts) f = rw (test true f) (sym (let p = t.key-end in let q = t.value-end in cc))

  pub locate-hit : x ≡ true → (w : Bool) → w ≡ is_some (parse m (drop d s)) → locate_from s key at n ≡ cond w (At at b d) Bad
  locate-hit f w h = here ∙ hit (parse m (drop d s)) f ∙ ap (λ (y : Bool). cond y (At at b d) Bad) (sym h)

  counted : (o : Option (List Item)) → count_from s key at n ≡ count_of (same_key key) (found (option_map (λ ts. t.head.item ∷ ts) o) [] (λ ts. ts)) → count_from s key at n
      ≡ cond (is_some o) (count_of (same_key key) (t.head.item ∷ found o [] (λ ts. ts))) 0
  unfolding count_of
  counted None e = e
  counted (Some ts) e = e

  among : count_from s key at n ≡ cond (is_some (parse m (drop d s))) (count_of (same_key key) (t.head.item ∷ items_in m (drop d s))) 0
  among = counted (parse m (drop d s)) (ap (λ o. count_of (same_key key) (found o [] (λ ts. ts))) (fewer n m t more))

  -- those behind it, and itself where it is a match
  pub count-hit : x ≡ true → count_from s key at n ≡ cond (is_some (parse m (drop d s))) (1 + count_from s key d m) 0
  unfolding count_of
  count-hit f = among ∙ rw (test true f)

  pub count-miss : x ≡ false → count_from s key at n ≡ count_from s key d m
  unfolding count_of
  count-miss f = among ∙ go (parse m (drop d s))
    where
      go : (o : Option (List Item)) → cond (is_some o) (count_of (same_key key) (t.head.item ∷ found o [] (λ ts. ts))) 0 ≡ count_of (same_key key) (found o [] (λ ts. ts))
      go None = refl
      go (Some ts) = rw (test false f) (omega arith)

pub count-stop : (s key : List ℕ) (at n : ℕ) → 0 < n → head (drop at s) ≡ None → count_from s key at n ≡ 0
unfolding count_of
count-stop s key at n h e = rw (parse-stop n (drop at s) h e)

pub count-end : (s key : List ℕ) (at n : ℕ) → n ≡ 0 → count_from s key at n ≡ 0
unfolding count_of
count-end s key at n z = go (parse 0 (drop at s)) refl
  where
    go : (o : Option (List Item)) → parse 0 (drop at s) ≡ o → count_from s key at n ≡ 0
    go None e = rw (z, e)
    go (Some ts) e = rw (z, e, parse-none (drop at s) ts e)

-- nothing is left
module _ (s key : List ℕ) (at : ℕ) (within : at ≤ length s) where
  last : locate_from s key at 0 ≡ cond (eqb at (length s)) (Ok None) Bad
  unfolding locate_in
  last = go (parse 0 (drop at s)) refl
    where
      go : (o : Option (List Item)) → parse 0 (drop at s) ≡ o → locate_from s key at 0 ≡ cond (eqb at (length s)) (Ok None) Bad
      go None e = rw (e, ← parse-end s at within, e)
      go (Some ts) e = rw (e, ← parse-end s at within, e, parse-none (drop at s) ts e)

  module _ (left : ℕ) (z : left ≡ 0) where
    none_left : locate_from s key at left ≡ locate_from s key at 0
    none_left = ap (locate_from s key at) z

    pub locate-none : at ≡ length s → locate_from s key at left ≡ Ok None
    locate-none e = none_left ∙ last ∙ rw (eq-eqb at (length s) e)

    pub locate-behind : (at ≡ length s → ⊥) → locate_from s key at left ≡ Bad
    locate-behind e = none_left ∙ last ∙ rw (ne_eqb at (length s) e)

-- ---- what the search of an area says of it

pub record Located (s : List ℕ) (n : ℕ) (key : List ℕ) (o : Option Place) : Type 0 where
  pub some : is_some (parse n s) ≡ true
  pub is : locate_in key 0 (items_in n s) ≡ o

-- an answer that is not refused
pub located : (s : List ℕ) (n : ℕ) (key : List ℕ) (o : Option Place) → Ok o ≡ locate_of s n key → Located s n key o
located s n key o e = go (parse n s) refl
  where
    go : (p : Option (List Item)) → parse n s ≡ p → Located s n key o
    go None q = absurd (let f : Ok o ≡ Bad = e ∙ rw q in cc)
    go (Some ts) q = record { some = rw q; is = rw q (let f : done o ≡ done (locate_in key 0 ts) = e ∙ rw q in cc) }

-- malformed items only are refused, and as such
pub unlocated-from : (s key : List ℕ) (at n : ℕ) (r : Refusal) → Err r ≡ locate_from s key at n → (is_some (parse n (drop at s)) ≡ false) × (r ≡ MalformedArea)
unlocated-from s key at n r e = go (parse n (drop at s)) refl
  where
    go : (o : Option (List Item)) → parse n (drop at s) ≡ o → (is_some (parse n (drop at s)) ≡ false) × (r ≡ MalformedArea)
    go None q = (rw q, let f : Err r ≡ Bad = e ∙ rw q in cc)
    go (Some ts) q = absurd (let f : Err r ≡ Ok (locate_in key at ts) = e ∙ rw q in cc)

pub unlocated : (s : List ℕ) (n : ℕ) (key : List ℕ) (r : Refusal) → Err r ≡ locate_of s n key → (is_some (parse n s) ≡ false) × (r ≡ MalformedArea)
unlocated s n key r e = unlocated-from s key 0 n r e

-- ---- what the search says of the number of matches

-- no place: none
pub absent-count : (key : List ℕ) (at : ℕ) (ts : List Item) → locate_in key at ts ≡ None → count_of (same_key key) ts ≡ 0
unfolding locate_in count_of
absent-count key at [] q = refl
absent-count key at (t ∷ ts) q = go (same_key key t.key) refl (absent-count key (at + size_of t) ts)
  where
    go : (b : Bool) → same_key key t.key ≡ b → (locate_in key (at + size_of t) ts ≡ None → count_of (same_key key) ts ≡ 0) → cond (same_key key t.key) 1 0 + count_of (same_key key) ts ≡ 0
    go true p ih = absurd (none-some _ (sym (rw p at q)))
    go false p ih = rw p (omega (arith, ih (rw p at q)))

-- a place: one at least
pub present-count : (key : List ℕ) (at : ℕ) (ts : List Item) {p : Place} → locate_in key at ts ≡ Some p → 0 < count_of (same_key key) ts
unfolding locate_in count_of
present-count key at [] q = absurd (none-some _ q)
present-count key at (t ∷ ts) {p} q = go (same_key key t.key) refl (present-count key (at + size_of t) ts)
  where
    go : (b : Bool) → same_key key t.key ≡ b → (locate_in key (at + size_of t) ts ≡ Some p → 0 < count_of (same_key key) ts) → 0 < cond (same_key key t.key) 1 0 + count_of (same_key key) ts
    go true e ih = rw e (omega arith)
    go false e ih = rw e (omega (arith, ih (rw e at q)))

-- the items behind a first match, and whether one of them matches too
pub record Behind (s key : List ℕ) (at n : ℕ) (repeated : Bool) : Type 0 where
  pub some : is_some (parse n (drop at s)) ≡ true
  pub more : ltb 1 (1 + count_from s key at n) ≡ repeated

-- whether a later one was found
pub behind : (s key : List ℕ) (at n : ℕ) (o : Option Place) → Ok o ≡ locate_from s key at n → Behind s key at n (is_some o)
behind s key at n o e = go (parse n (drop at s)) refl
  where
    more : (ts : List Item) (o : Option Place) → locate_in key at ts ≡ o → ltb 1 (1 + count_of (same_key key) ts) ≡ is_some o
    more ts None q = rw (absent-count key at ts q)
    more ts (Some p) q = lt-ltb 1 (1 + count_of (same_key key) ts) (omega (arith, present-count key at ts q))

    go : (p : Option (List Item)) → parse n (drop at s) ≡ p → Behind s key at n (is_some o)
    go None q = absurd (let f : Ok o ≡ Bad = e ∙ rw q in cc)
    go (Some ts) q = record { some = rw q; more = rw q (more ts o (let f : done o ≡ done (locate_in key at ts) = e ∙ rw q in cc)) }
