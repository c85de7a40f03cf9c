-- The items that are appended behind the pass, one after another, and sizes up to the limit of a file.
use Prim.Native.Nat.{ℕ, zero, suc, ◌+◌, ◌≤◌, ◌<◌}
use native.Mathlib.Omega.{arith}
use mathlib.Core.Path.{◌≡◌, refl, sym, ap, ◌∙◌}
use mathlib.Core.Bool.{Bool, true, false, ◌&&◌, cond}
use mathlib.Core.List.{List, [], ◌∷◌, ◌++◌, map, append_assoc, append-nil}
use native.Mathlib.Numerals.{add-one}
use lib.ListN.{length, get_or, set, drop, length-append}
use lib.Seq.{drop-cons}
use lib.Dec.{leb, ltb, eqb}
use borrow.Author.Tests.{le-leb, lt-leb, leb-true, leb-false, eqb-true, eqb-false}
use Rattle.std.specs.Borrow.{Bor}
use Rattle.std.proofs.lemmas.List.{get_or-map, get_or-set_same, get_or-set_other}
use Rattle.lists.specs.Write.{splice}
use Rattle.lists.proofs.Wrote.{Wrote, start, next}
use Rattle.items.specs.declared.Size.{Size}
use Rattle.replies.specs.Limits.{file_limit}
use Rattle.utf8.specs.Utf8.{valid}
use Rattle.keys.specs.Keys.{keys}
use Rattle.keys.proofs.Keys.{length-upper}
use Rattle.items.specs.Items.{Item, area_bytes}
use Rattle.items.proofs.Area.{length-item}
use Rattle.area_edit.specs.Edits.{fresh}
use Rattle.area_edit.proofs.Setting.{fresh-item}
use Rattle.area_gains.specs.Gains.{gain_keys, marked, capital, all_valid, added, capped}

-- ---- sizes

pub capped-in : (n : ℕ) → n ≤ file_limit → capped n ≡ n
unfolding capped
capped-in n h = rw (le-leb _ _ h)

pub capped-out : (n : ℕ) → file_limit < n → capped n ≡ file_limit + 1
unfolding capped
capped-out n h = rw (lt-leb _ _ h)

pub capped-most : (n : ℕ) → capped n ≤ file_limit + 1
unfolding capped
capped-most n = go (leb n file_limit) refl
  where
    go : (t : Bool) → leb n file_limit ≡ t → cond (leb n file_limit) n (file_limit + 1) ≤ file_limit + 1
    go true e = let h = leb-true _ _ e in rw e (omega arith)
    go false e = rw e (omega arith)

pub capped-self : (n : ℕ) → n ≤ file_limit + 1 → capped n ≡ n
unfolding capped
capped-self n h = go (leb n file_limit) refl
  where
    go : (t : Bool) → leb n file_limit ≡ t → cond (leb n file_limit) n (file_limit + 1) ≡ n
    go true e = rw e
    go false e = let k = leb-false _ _ e in rw e (omega arith)

-- a size that grows
pub more : (x y : ℕ) {r q : ℕ} → r ≡ capped (q + y) → q ≡ capped x → r ≡ capped (x + y)
more x y {r} {q} e f = e ∙ go (leb x file_limit) refl
  where
    go : (t : Bool) → leb x file_limit ≡ t → capped (q + y) ≡ capped (x + y)
    go true g = ap (λ (n : ℕ). capped (n + y)) (f ∙ capped-in x (leb-true _ _ g))
    go false g =
        let l : file_limit < x = leb-false _ _ g in
        let p : q ≡ file_limit + 1 = f ∙ capped-out x l in
        capped-out (q + y) (omega arith) ∙ sym (capped-out (x + y) (omega arith))

-- ---- the lent texts, and the keys

abbrev pub lent : List (Bor (List ℕ)) → List (List ℕ)
lent ts = map (λ t. t.now) ts

-- the key at a place of a table of five
pub five-at : (i : ℕ) → i < 5 → (a b c d e z : Bor (List ℕ)) → (get_or (a ∷ b ∷ c ∷ d ∷ e ∷ []) i z).now ≡ get_or (a.now ∷ b.now ∷ c.now ∷ d.now ∷ e.now ∷ []) i []
five-at zero h a b c d e z = refl
five-at (suc zero) h a b c d e z = refl
five-at (suc (suc zero)) h a b c d e z = refl
five-at (suc (suc (suc zero))) h a b c d e z = refl
five-at (suc (suc (suc (suc zero)))) h a b c d e z = refl
five-at (suc (suc (suc (suc (suc i))))) h a b c d e z = absurd (omega arith)

-- the text at a place
pub lent-at : (ts : List (Bor (List ℕ))) (vs : List (List ℕ)) (i : ℕ) (d : Bor (List ℕ)) → lent ts ≡ vs → i < length ts → (get_or ts i d).now ≡ get_or vs i []
lent-at ts vs i d e h = sym (get_or-map (λ t. t.now) ts i d [] h) ∙ ap (λ l. get_or l i []) e

pub all-next : (vs : List (List ℕ)) (i : ℕ) → i < length vs → all_valid (drop i vs) ≡ (valid (get_or vs i []) && all_valid (drop (i + 1) vs))
all-next vs i h = rw (add-one, drop-cons vs i [] h)

-- one more mark
pub marked-here : (m : List Bool) (vs : List (List ℕ)) (i k : ℕ) {b : Bool} → i < length m → k < i + 1 → ((k : ℕ) → k < i → get_or m k false ≡ ltb 0 (length (get_or vs k [])))
    → b ≡ ltb 0 (length (get_or vs i [])) → get_or (set m i b) k false ≡ ltb 0 (length (get_or vs k []))
marked-here m vs i k {b} h l at e = go (eqb k i) refl
  where
    go : (t : Bool) → eqb k i ≡ t → get_or (set m i b) k false ≡ ltb 0 (length (get_or vs k []))
    go true q = let u : k ≡ i = eqb-true k i q in rw (u, get_or-set_same m i b false h) e
    go false q = let u = eqb-false k i q in get_or-set_other m i k b false u ∙ at k (omega arith)

-- ---- those from a place on

abbrev one : List ℕ → Bool → List ℕ → List ℕ
one k b v = cond b (fresh k v) []

added-cons : (k : List ℕ) (b : Bool) (v : List ℕ) (ks : List (List ℕ)) (bs : List Bool) (vs : List (List ℕ)) → added (k ∷ ks) (b ∷ bs) (v ∷ vs) ≡ one k b v ++ added ks bs vs
unfolding added marked area_bytes
added-cons k true v ks bs vs = ap (λ (l : List ℕ). l ++ area_bytes (map capital (marked ks bs vs))) (sym (fresh-item k v))
added-cons k false v ks bs vs = refl

count-cons : (k : List ℕ) (b : Bool) (v : List ℕ) (ks : List (List ℕ)) (bs : List Bool) (vs : List (List ℕ))
    → length (marked (k ∷ ks) (b ∷ bs) (v ∷ vs)) ≡ cond b 1 0 + length (marked ks bs vs)
unfolding marked
count-cons k true v ks bs vs = omega arith
count-cons k false v ks bs vs = omega arith

-- a fresh item's length
pub fresh-length : (key value : List ℕ) → length (fresh key value) ≡ 9 + length key + length value
fresh-length key value = ap length (fresh-item key value) ∙ length-item _ ∙ rw length-upper

module _ (m : List Bool) (vs : List (List ℕ)) where
  -- the items that are appended from a place on, and their bytes
  abbrev pub items_from : ℕ → List Item
  items_from i = marked (drop i gain_keys) (drop i m) (drop i vs)

  abbrev pub bytes_from : ℕ → List ℕ
  bytes_from i = added (drop i gain_keys) (drop i m) (drop i vs)

  module _ (five : length m ≡ 5) (many : length vs ≡ 5) where
    module _ (i : ℕ) (h : i < 5) where
      abbrev pub key_at : List ℕ
      key_at = get_or gain_keys i []

      k : i < length gain_keys
      unfolding gain_keys keys
      k = omega arith

      pub bytes-next : bytes_from i ≡ one key_at (get_or m i false) (get_or vs i []) ++ bytes_from (i + 1)
      bytes-next =
          let b : i < length m = omega arith in
          let v : i < length vs = omega arith in
          let c = k in
          rw (add-one, drop-cons gain_keys i [] c, drop-cons m i false b, drop-cons vs i [] v) (added-cons _ _ _ _ _ _)

      pub count-next : length (items_from i) ≡ cond (get_or m i false) 1 0 + length (items_from (i + 1))
      count-next =
          let b : i < length m = omega arith in
          let v : i < length vs = omega arith in
          let c = k in
          rw (add-one, drop-cons gain_keys i [] c, drop-cons m i false b, drop-cons vs i [] v) (count-cons _ _ _ _ _ _)

      -- an item that waits, and one that does not
      pub waits-bytes : get_or m i false ≡ true → bytes_from i ≡ fresh key_at (get_or vs i []) ++ bytes_from (i + 1)
      waits-bytes e = bytes-next ∙ rw e

      pub done-bytes : get_or m i false ≡ false → bytes_from i ≡ bytes_from (i + 1)
      done-bytes e = bytes-next ∙ rw e

      pub waits-count : get_or m i false ≡ true → length (items_from i) ≡ 1 + length (items_from (i + 1))
      waits-count e = count-next ∙ rw e

      pub done-count : get_or m i false ≡ false → length (items_from i) ≡ length (items_from (i + 1))
      done-count e = count-next ∙ rw e (omega arith)

    -- nothing is behind the last
    pub bytes-end : bytes_from 5 ≡ []
    unfolding added marked area_bytes gain_keys keys
    bytes-end = refl

    pub items-end : length (items_from 5) ≡ 0
    unfolding marked gain_keys keys
    items-end = refl

-- ---- the loop that measures what is appended

module _ (m : List Bool) (vs : List (List ℕ)) (old : ℕ) where
  pub record Resting (i size : ℕ) : Type 0 where
    pub most : size ≤ file_limit + 1
    pub same : capped (old + length (bytes_from m vs 0)) ≡ capped (size + length (bytes_from m vs i))

  module _ (five : length m ≡ 5) (many : length vs ≡ 5) where
    module _ {i size : ℕ} (x : Resting i size) (h : i < 5) where
      pub rest-keep : get_or m i false ≡ false → Resting (i + 1) size
      rest-keep e = record { most = x.most; same = x.same ∙ ap (λ l. capped (size + length l)) (done-bytes m vs five many i h e) }

      pub rest-add : get_or m i false ≡ true → (k v r : ℕ) → k ≡ length (get_or gain_keys i []) → v ≡ length (get_or vs i []) → r ≡ capped (size + (9 + k + v)) → Resting (i + 1) r
      rest-add e k v r p q f =
          let n = 9 + k + v in
          let y = length (bytes_from m vs (i + 1)) in
          let b : length (bytes_from m vs i) ≡ n + y = simp length-append at (ap length (waits-bytes m vs five many i h e)) ∙ rw (fresh-length, ← p, ← q) in
          let z : size + length (bytes_from m vs i) ≡ size + n + y = omega arith in
          record { most = rw f (capped-most (size + n)); same = x.same ∙ ap capped z ∙ sym (more (size + n) y refl f) }

    pub rest-end : {i size : ℕ} → Resting i size → i ≡ 5 → size ≡ capped (old + length (added gain_keys m vs))
    rest-end {i} {size} x e =
        let b : length (bytes_from m vs i) ≡ 0 = ap (λ (j : ℕ). length (bytes_from m vs j)) e ∙ ap length (bytes-end m vs five many) in
        let z : size + length (bytes_from m vs i) ≡ size = omega arith in
        sym (x.same ∙ ap capped z ∙ capped-self size x.most)

-- ---- the loop that appends

-- what is appended so far, and what is left
pub record Putting (m : List Bool) (vs : List (List ℕ)) (old : Size) (out₀ out : List ℕ) (i : ℕ) (z : Size) : Type 0 where
  pub done : List ℕ
  pub same : bytes_from m vs 0 ≡ done ++ bytes_from m vs i
  pub count : z.count + length (items_from m vs i) ≡ old.count + length (items_from m vs 0)
  pub few : z.count ≤ z.length
  pub wrote : Wrote out₀ old.length done z.length out
  pub long : length out ≡ length out₀

module _ (m : List Bool) (vs : List (List ℕ)) (old : Size) (out₀ : List ℕ) where
  pub put-begin : old.count ≤ old.length → old.length ≤ length out₀ → Putting m vs old out₀ out₀ 0 old
  put-begin h k = record { done = []; same = refl; count = refl; few = h; wrote = start out₀ old.length k; long = refl }

module _ {m : List Bool} {vs : List (List ℕ)} {old : Size} {out₀ out : List ℕ} {i : ℕ} {z : Size} (x : Putting m vs old out₀ out i z) (five : length m ≡ 5) (many : length vs ≡ 5) where
  -- nothing more is left
  pub put-end : i ≡ 5 → (z.count ≡ old.count + length (marked gain_keys m vs)) × (z.length ≡ old.length + length (added gain_keys m vs)) × (out ≡ splice out₀ old.length (added gain_keys m vs))
  put-end e =
      let b : added gain_keys m vs ≡ x.done = x.same ∙ ap (λ (j : ℕ). x.done ++ bytes_from m vs j) e ∙ rw (bytes-end m vs five many, append-nil) in
      let n : length (items_from m vs i) ≡ 0 = ap (λ (j : ℕ). length (items_from m vs j)) e ∙ items-end m vs five many in
      (omega (arith, x.count, n), omega (arith, x.wrote.ends, ap length b), x.wrote.is ∙ rw b)

  module _ (h : i < 5) where
    pub put-keep : get_or m i false ≡ false → Putting m vs old out₀ out (i + 1) z
    put-keep e =
        record {
          done = x.done;
          same = x.same ∙ ap (λ l. x.done ++ l) (done-bytes m vs five many i h e);
          count = omega (arith, x.count, done-count m vs five many i h e);
          few = x.few;
          wrote = x.wrote;
          long = x.long;
        }

    module _ (e : get_or m i false ≡ true) where
      abbrev new : List ℕ
      new = fresh (get_or gain_keys i []) (get_or vs i [])

      whole : bytes_from m vs 0 ≡ (x.done ++ new) ++ bytes_from m vs (i + 1)
      whole = x.same ∙ ap (λ l. x.done ++ l) (waits-bytes m vs five many i h e) ∙ sym (append_assoc x.done new (bytes_from m vs (i + 1)))

      -- it fits
      pub put-room : old.length + length (bytes_from m vs 0) ≤ length out₀ → length (bytes_from m vs 0) ≤ file_limit
          → (length (get_or vs i []) ≤ file_limit) × (z.length + 9 + length (get_or gain_keys i []) + length (get_or vs i []) ≤ length out)
      put-room r l =
          let k = simp length-append at (ap length whole) in
          let f = fresh-length (get_or gain_keys i []) (get_or vs i []) in
          (omega arith, omega (arith, x.wrote.ends, x.long))

      pub put-next : (end : ℕ) (out' : List ℕ) → (end ≡ z.length + length new) × (out' ≡ splice out z.length new) → length out' ≡ length out
          → Putting m vs old out₀ out' (i + 1) (record { count = z.count + 1; length = end })
      put-next end out' q l =
          record {
            done = x.done ++ new;
            same = whole;
            count = omega (arith, x.count, waits-count m vs five many i h e);
            few = omega (arith, x.few, fresh-length (get_or gain_keys i []) (get_or vs i []));
            wrote = next x.wrote new q;
            long = l ∙ x.long;
          }
