-- Items set one after another (`set_replaygain` of the source), done in one pass.
use Prim.Native.Nat.{ℕ}
use native.Mathlib.Omega.{arith}
use mathlib.Core.Path.{◌≡◌, refl, sym, ap, ◌∙◌}
use mathlib.Core.Bool.{Bool, true, false, cond}
use Rattle.std.specs.Prelude.{Option, None, Some}
use mathlib.Core.List.{List, [], ◌∷◌, map}
use Rattle.lists.specs.Choice.{found}
use Rattle.keys.specs.Keys.{upper_all, same_key}
use Rattle.keys.proofs.Keys.{key-sym, key-comm, key-upper, same-caseless}
use Rattle.items.specs.Items.{Item, get_item, with_value, set_item, without, remove_item}
use Rattle.items.proofs.ItemLaws.{get-without}
use Rattle.area_gains.specs.Gains.{set_each, capital}

-- one pass: an item with the key of one that is still to be set gets its value; what is left is appended in order
unfoldable pub merged : List Item → List Item → List Item
merged ps [] = map capital ps
merged ps (t ∷ ts) =
    found (get_item t.key ps) (t ∷ merged ps ts) (λ v. with_value v t ∷ merged (remove_item t.key ps) ts)

-- no two keys are equal without case
abbrev pub Apart : List Item → Type 0
Apart [] = Unit {0}
Apart (p ∷ ps) = (get_item p.key ps ≡ None) × Apart ps

get-same : (a b : List ℕ) → same_key a b ≡ true → (ps : List Item) → get_item a ps ≡ get_item b ps
unfolding get_item
get-same a b e [] = refl
get-same a b e (p ∷ ps) =
    let f : same_key a p.key ≡ same_key b p.key = key-comm a p.key ∙ (same-caseless p.key).cased a b e ∙ key-comm p.key b in
    rw (f, get-same a b e ps)

remove-none : (key : List ℕ) (ps : List Item) → get_item key ps ≡ None → remove_item key ps ≡ ps
unfolding get_item without
remove-none key [] h = refl
remove-none key (p ∷ ps) h = go (same_key key p.key) refl h (remove-none key ps)
  where
    go : (a : Bool) → same_key key p.key ≡ a → cond (same_key key p.key) (Some p.value) (get_item key ps) ≡ None
        → (get_item key ps ≡ None → remove_item key ps ≡ ps) → remove_item key (p ∷ ps) ≡ p ∷ ps
    go true e k ih =
        let z : ◌≡◌ {A = ℕ} 0 1 = cc (rw e at k) in
        absurd (omega arith)
    go false e k ih = rw (e, ih (rw e at k))

-- an item stays, or gets its value
pub merged-keep : (ps : List Item) (t : Item) (ts : List Item) → get_item t.key ps ≡ None → merged ps (t ∷ ts) ≡ t ∷ merged ps ts
unfolding merged
merged-keep ps t ts e = rw e

pub merged-take : (ps : List Item) (t : Item) (ts : List Item) (v : List ℕ) → get_item t.key ps ≡ Some v
    → merged ps (t ∷ ts) ≡ with_value v t ∷ merged (remove_item t.key ps) ts
unfolding merged
merged-take ps t ts v e = rw e

-- nothing is to be set
merged-none : (ts : List Item) → merged [] ts ≡ ts
unfolding merged get_item
merged-none [] = refl
merged-none (t ∷ ts) = ap (λ (l : List Item). t ∷ l) (merged-none ts)

-- the first one set, and then the others
merged-set : (p : Item) (ps ts : List Item) → get_item p.key ps ≡ None → merged (p ∷ ps) ts ≡ merged ps (set_item p.key p.value ts)
unfolding merged get_item set_item without
merged-set p ps [] h = rw (get-same (upper_all p.key) p.key (key-upper p.key) ps, h)
merged-set p ps (t ∷ ts) h = go (same_key p.key t.key) (get_item t.key ps) refl refl (λ qs. merged-set p qs ts)
  where
    go : (a : Bool) (o : Option (List ℕ)) → same_key p.key t.key ≡ a → get_item t.key ps ≡ o
        → ((qs : List Item) → get_item p.key qs ≡ None → merged (p ∷ qs) ts ≡ merged qs (set_item p.key p.value ts))
        → merged (p ∷ ps) (t ∷ ts) ≡ merged ps (set_item p.key p.value (t ∷ ts))
    go true o e g ih =
        let f : same_key t.key p.key ≡ true = key-sym p.key t.key e in
        let n : get_item t.key ps ≡ None = get-same t.key p.key f ps ∙ h in
        rw (f, e, n) (ap (λ (l : List Item). with_value p.value t ∷ merged l ts) (remove-none t.key ps n))
    go false None e g ih =
        let f : same_key t.key p.key ≡ false = key-comm t.key p.key ∙ e in
        rw (f, e, g) (ap (λ (l : List Item). t ∷ l) (ih ps h))
    go false (Some v) e g ih =
        let f : same_key t.key p.key ≡ false = key-comm t.key p.key ∙ e in
        let k : get_item p.key (remove_item t.key ps) ≡ None = get-without (same_key t.key) (same-caseless t.key) p.key ps f ∙ h in
        rw (f, e, g) (ap (λ (l : List Item). with_value v t ∷ l) (ih (remove_item t.key ps) k))

-- set one after another is one pass
pub merged-each : (ps ts : List Item) → Apart ps → set_each ps ts ≡ merged ps ts
unfolding set_each
merged-each [] ts h = sym (merged-none ts)
merged-each (p ∷ ps) ts h = merged-each ps (set_item p.key p.value ts) h.1 ∙ sym (merged-set p ps ts h.0)
