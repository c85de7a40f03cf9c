-- The marked texts by key: which one a key gets, and what is left then.
use Prim.Native.Nat.{ℕ, zero, suc, ◌-◌, ◌≤◌, ◌<◌}
use native.Mathlib.Omega.{arith}
use mathlib.Core.Path.{◌≡◌, refl, sym, ◌∙◌}
use mathlib.Core.Bool.{Bool, true, false, cond, true≢false}
use Rattle.std.specs.Prelude.{Option, None, Some, option_map}
use mathlib.Core.List.{List, [], ◌∷◌}
use lib.ListN.{length, get_or, set}
use lib.Dec.{leb}
use borrow.Author.Tests.{le-leb, leb-true}
use Rattle.std.specs.Option.{SomeIff}
use Rattle.std.proofs.lemmas.Option.{none-some, cond_some}
use Rattle.lists.specs.Choice.{found, provided}
use Rattle.keys.specs.Keys.{upper, upper_all, same_key, which_of, keys, which_key}
use Rattle.keys.proofs.Keys.{which-same, which-is}
use Rattle.lists.specs.Bytes.{same}
use Rattle.items.specs.Items.{get_item, without, remove_item}
use Rattle.area_gains.specs.Gains.{gain_keys, marked, gain_place}
use Rattle.area_gains.proofs.Merge.{Apart}

-- no two names are equal without case
abbrev pub Distinct : List (List ℕ) → Type 0
Distinct [] = Unit {0}
Distinct (k ∷ ks) = (which_of ks k ≡ None) × Distinct ks

pub gains-distinct : Distinct gain_keys
unfolding gain_keys keys which_of same_key same upper_all upper
gains-distinct = (refl, (refl, (refl, (refl, (refl, tt)))))

-- the marked text at a place
abbrev at : List Bool → List (List ℕ) → ℕ → Option (List ℕ)
at bs vs i = cond (get_or bs i false) (Some (get_or vs i [])) None

get-marked : (ks : List (List ℕ)) → Distinct ks → (bs : List Bool) (vs : List (List ℕ)) → length ks ≤ length vs → (key : List ℕ)
    → get_item key (marked ks bs vs) ≡ found (which_of ks key) None (at bs vs)
unfolding get_item marked which_of
get-marked [] d bs vs h key = refl
get-marked (k ∷ ks) d [] vs h key = go (cond (same_key key k) (Some 0) (option_map suc (which_of ks key)))
  where
    go : (o : Option ℕ) → None ≡ found o None (at [] vs)
    go None = refl
    go (Some i) = refl
get-marked (k ∷ ks) d (b ∷ bs) [] h key = absurd (omega arith)
get-marked (k ∷ ks) d (b ∷ bs) (v ∷ vs) h key = go b (same_key key k) (which_of ks key) refl refl (get-marked ks d.1 bs vs (omega arith) key)
  where
    go : (b x : Bool) (o : Option ℕ) → same_key key k ≡ x → which_of ks key ≡ o → get_item key (marked ks bs vs) ≡ found (which_of ks key) None (at bs vs)
        → get_item key (marked (k ∷ ks) (b ∷ bs) (v ∷ vs)) ≡ found (cond (same_key key k) (Some 0) (option_map suc (which_of ks key))) None (at (b ∷ bs) (v ∷ vs))
    go true true o e f ih = rw e
    go false true o e f ih = rw (e, ih, which-same ks key k e, d.0)
    go true false None e f ih = rw (e, ih, f)
    go true false (Some i) e f ih = rw (e, ih, f)
    go false false None e f ih = rw (e, ih, f)
    go false false (Some i) e f ih = rw (e, ih, f)

remove-marked : (ks : List (List ℕ)) → Distinct ks → (bs : List Bool) (vs : List (List ℕ)) → (key : List ℕ)
    → remove_item key (marked ks bs vs) ≡ found (which_of ks key) (marked ks bs vs) (λ i. marked ks (set bs i false) vs)
unfolding without marked which_of
remove-marked [] d bs vs key = refl
remove-marked (k ∷ ks) d [] vs key = go (cond (same_key key k) (Some 0) (option_map suc (which_of ks key)))
  where
    go : (o : Option ℕ) → [] ≡ found o [] (λ i. marked (k ∷ ks) (set [] i false) vs)
    go None = refl
    go (Some i) = refl
remove-marked (k ∷ ks) d (b ∷ bs) [] key = go (cond (same_key key k) (Some 0) (option_map suc (which_of ks key)))
  where
    go : (o : Option ℕ) → [] ≡ found o [] (λ i. marked (k ∷ ks) (set (b ∷ bs) i false) [])
    go None = refl
    go (Some zero) = refl
    go (Some (suc i)) = refl
remove-marked (k ∷ ks) d (b ∷ bs) (v ∷ vs) key = go b (same_key key k) (which_of ks key) refl refl (remove-marked ks d.1 bs vs key)
  where
    go : (b x : Bool) (o : Option ℕ) → same_key key k ≡ x → which_of ks key ≡ o
        → remove_item key (marked ks bs vs) ≡ found (which_of ks key) (marked ks bs vs) (λ i. marked ks (set bs i false) vs)
        → remove_item key (marked (k ∷ ks) (b ∷ bs) (v ∷ vs))
        ≡ found (cond (same_key key k) (Some 0) (option_map suc (which_of ks key))) (marked (k ∷ ks) (b ∷ bs) (v ∷ vs)) (λ i. marked (k ∷ ks) (set (b ∷ bs) i false) (v ∷ vs))
    go true true o e f ih = rw (e, ih, which-same ks key k e, d.0)
    go false true o e f ih = rw (e, ih, which-same ks key k e, d.0)
    go true false None e f ih = rw (e, ih, f)
    go true false (Some i) e f ih = rw (e, ih, f)
    go false false None e f ih = rw (e, ih, f)
    go false false (Some i) e f ih = rw (e, ih, f)

-- the keys of what is marked differ
pub marked-apart : (ks : List (List ℕ)) → Distinct ks → (bs : List Bool) (vs : List (List ℕ)) → length ks ≤ length vs → Apart (marked ks bs vs)
unfolding marked
marked-apart [] d bs vs h = tt
marked-apart (k ∷ ks) d [] vs h = tt
marked-apart (k ∷ ks) d (b ∷ bs) [] h = tt
marked-apart (k ∷ ks) d (true ∷ bs) (v ∷ vs) h = (get-marked ks d.1 bs vs (omega arith) k ∙ rw d.0, marked-apart ks d.1 bs vs (omega arith))
marked-apart (k ∷ ks) d (false ∷ bs) (v ∷ vs) h = marked-apart ks d.1 bs vs (omega arith)

-- a mark that is set has a place
marked-within : (bs : List Bool) (i : ℕ) → get_or bs i false ≡ true → i < length bs
marked-within [] i e = absurd (true≢false (sym e))
marked-within (b ∷ bs) zero e = omega arith
marked-within (b ∷ bs) (suc i) e = let h = marked-within bs i e in omega arith

-- ---- the five, by the place of a key

module _ (bs : List Bool) (vs : List (List ℕ)) (five : length bs ≡ 5) (many : length vs ≡ 5) (key : List ℕ) where
  long : length gain_keys ≤ length vs
  unfolding gain_keys keys
  long = omega arith

  pub not-marked : provided (λ i. get_or bs i false) (gain_place key) ≡ None → get_item key (marked gain_keys bs vs) ≡ None
  unfolding gain_place
  not-marked e = get-marked gain_keys gains-distinct bs vs long key ∙ go (which_of gain_keys key) e
    where
      unmarked : (t : Bool) (i : ℕ) (v : List ℕ) → cond t (Some i) None ≡ None → cond t (Some v) None ≡ None
      unmarked true i v e = absurd (none-some i (sym e))
      unmarked false i v e = refl

      go : (o : Option ℕ) → provided (λ i. get_or bs i false) o ≡ None → found o None (at bs vs) ≡ None
      go None e = refl
      go (Some i) e = unmarked (get_or bs i false) i (get_or vs i []) e

  -- what a key that waits gets, and what waits then
  pub record Waits (i : ℕ) : Type 0 where
    pub within : i < 5
    pub gets : get_item key (marked gain_keys bs vs) ≡ Some (get_or vs i [])
    pub leaves : remove_item key (marked gain_keys bs vs) ≡ marked gain_keys (set bs i false) vs

  pub is-marked : (i : ℕ) → provided (λ i. get_or bs i false) (gain_place key) ≡ Some i → Waits i
  unfolding gain_place
  is-marked i e = go (which_of gain_keys key) refl e
    where
      go : (o : Option ℕ) → which_of gain_keys key ≡ o → provided (λ i. get_or bs i false) o ≡ Some i → Waits i
      go None f e = absurd (none-some i e)
      go (Some j) f e =
          let (m, k) = cond_some (get_or bs j false) j i e in
          let h = marked-within bs j m in
          record {
            within = omega arith;
            gets = get-marked gain_keys gains-distinct bs vs long key ∙ rw (f, m, k);
            leaves = remove-marked gain_keys gains-distinct bs vs key ∙ rw (f, k);
          }

-- a place among the five is one
pub place-within : (key : List ℕ) (i : ℕ) → Some i ≡ gain_place key → i < 5
unfolding gain_place gain_keys keys
place-within key i e = (which-is gain_keys key i (sym e)).0

-- ---- the place of a key among the five, by its place among the eight

abbrev pub place_by : ℕ → Option ℕ
place_by i = cond (leb 3 i) (Some (i - 3)) None

pub sub_is : (o : Option ℕ) (i : ℕ) → SomeIff o (3 ≤ i) (i - 3) → o ≡ place_by i
sub_is None i h = go (leb 3 i) refl
  where
    go : (t : Bool) → leb 3 i ≡ t → None ≡ cond t (Some (i - 3)) None
    go true e = absurd (h (leb-true _ _ e))
    go false e = refl
sub_is (Some x) i h = rw (le-leb _ _ h.0, h.1)

-- none of the first three is one of the five
front : (which_of gain_keys (get_or keys 0 []) ≡ None) × (which_of gain_keys (get_or keys 1 []) ≡ None) × (which_of gain_keys (get_or keys 2 []) ≡ None)
unfolding gain_keys keys which_of same_key same upper_all upper
front = (refl, refl, refl)

pub place_is : (key : List ℕ) → gain_place key ≡ found (which_key key) None place_by
unfolding gain_place gain_keys which_key which_of keys
place_is key = go (same_key key (get_or keys 0 [])) (same_key key (get_or keys 1 [])) (same_key key (get_or keys 2 [])) (which_of gain_keys key) refl refl refl refl
  where
    apart : (n : List ℕ) → which_of gain_keys n ≡ None → same_key key n ≡ true → which_of gain_keys key ≡ None
    apart n h e = which-same gain_keys key n e ∙ h

    go : (x y z : Bool) (o : Option ℕ) → same_key key (get_or keys 0 []) ≡ x → same_key key (get_or keys 1 []) ≡ y → same_key key (get_or keys 2 []) ≡ z → which_of gain_keys key ≡ o
        → which_of gain_keys key ≡ found (which_of keys key) None place_by
    go true y z o e f g h = rw (e, apart _ front.0 e)
    go false true z o e f g h = rw (e, f, apart _ front.1 f)
    go false false true o e f g h = rw (e, f, g, apart _ front.2 g)
    go false false false None e f g h = rw (e, f, g, h)
    go false false false (Some i) e f g h =
        let l : 3 ≤ suc (suc (suc i)) = omega arith in
        let m : suc (suc (suc i)) - 3 ≡ i = omega arith in
        rw (e, f, g, h) (rw (le-leb _ _ l, m))
