-- Laws of keys: equality without case is an equivalence, upper-casing keeps a key equal, and the lookup goes by the key without case.
use Prim.Native.Nat.{ℕ, zero, suc, ◌+◌, ◌-◌, ◌≤◌, ◌<◌}
use native.Mathlib.Omega.{arith}
use mathlib.Core.Path.{◌≡◌, refl, sym, ap, ◌∙◌, fun_ext}
use mathlib.Core.Bool.{Bool, true, false, not, ◌&&◌, ◌||◌, cond, and-eq-true_iff, true≢false}
use Rattle.std.specs.Prelude.{Option, None, Some}
use Rattle.std.specs.Prelude.{nat_lt}
use Rattle.std.proofs.lemmas.Grind.{common_steps}
use Rattle.std.specs.List.{position}
use Rattle.std.specs.Char.{to_ascii_uppercase}
use Rattle.std.specs.Prelude.{option_map}
use mathlib.Core.List.{List, [], ◌∷◌, map, map-map}
use lib.ListN.{length, get_or, take, drop, length-map}
use lib.Dec.{leb, eqb}
use borrow.Author.Tests.{lt-leb, le-leb, leb-true, ne_eqb}
use Rattle.lists.specs.Bytes.{among, all, same, place_of}
use Rattle.lists.specs.Choice.{found}
use Rattle.lists.proofs.Same.{and-false, same_true, same_refl, same-unequal}
use Rattle.keys.specs.Keys.{upper, upper_all, same_key, which_of, keys, which_key, is_from, is_mp3gain_key, is_undone, undo_key, minmax_key, printable, is_reserved, is_key}

-- ---- equal without case is equal in upper case

pub key-true : (a b : List ℕ) → same_key a b ≡ true → upper_all a ≡ upper_all b
unfolding same_key
key-true a b e = same_true (upper_all a) (upper_all b) e

pub key-same : (a b : List ℕ) → upper_all a ≡ upper_all b → same_key a b ≡ true
unfolding same_key
key-same a b e = rw e (same_refl (upper_all b))

pub key-refl : (a : List ℕ) → same_key a a ≡ true
key-refl a = key-same a a refl

pub key-sym : (a b : List ℕ) → same_key a b ≡ true → same_key b a ≡ true
key-sym a b e = key-same b a (sym (key-true a b e))

pub key-trans : (a b c : List ℕ) → same_key a b ≡ true → same_key b c ≡ true → same_key a c ≡ true
key-trans a b c e f = key-same a c (key-true a b e ∙ key-true b c f)

pub key-comm : (a b : List ℕ) → same_key a b ≡ same_key b a
key-comm a b = go (same_key a b) (same_key b a) refl refl
  where
    go : (x y : Bool) → same_key a b ≡ x → same_key b a ≡ y → same_key a b ≡ same_key b a
    go true y e f = e ∙ sym (key-sym a b e)
    go false true e f = key-sym b a f ∙ sym f
    go false false e f = e ∙ sym f

-- ---- upper case

pub in-range : (a b x : ℕ) → among a b x ≡ true → (a ≤ x) × (x ≤ b)
in-range a b x e =
    let (p, q) = (and-eq-true_iff (leb a x) (leb x b)).0 e in
    (leb-true a x p, leb-true x b q)

-- std's word for it
pub upper-std : (x : ℕ) → to_ascii_uppercase x ≡ upper x
unfolding upper
upper-std x = grind arith

upper-twice : (x : ℕ) → upper (upper x) ≡ upper x
unfolding upper
upper-twice x = go (among 97 122 x) refl
  where
    go : (t : Bool) → among 97 122 x ≡ t → upper (upper x) ≡ upper x
    go true e = let (l, h) = in-range 97 122 x e in rw (e, lt-leb 97 (x - 32) (omega arith))
    go false e = rw (e, e)

upper_all-twice : (a : List ℕ) → upper_all (upper_all a) ≡ upper_all a
unfolding upper_all
upper_all-twice a = map-map upper upper a ∙ ap (λ f. map f a) (fun_ext upper-twice)

pub key-upper : (a : List ℕ) → same_key (upper_all a) a ≡ true
key-upper a = key-same (upper_all a) a (upper_all-twice a)

pub length-upper : (a : List ℕ) → length (upper_all a) ≡ length a
unfolding upper_all
length-upper a = length-map a upper

pub get_d-upper : (a : List ℕ) (i : ℕ) → i < length a → get_or (upper_all a) i 0 ≡ upper (get_or a i 0)
unfolding upper_all
get_d-upper [] i h = absurd (omega arith)
get_d-upper (x ∷ a) zero h = refl
get_d-upper (x ∷ a) (suc i) h = get_d-upper a i (omega arith)

-- ---- a loop that compares two keys, before i

and-swap : (x y z : Bool) → (x && (y && z)) ≡ (y && (x && z))
and-swap true y z = refl
and-swap false y z = sym (and-false y)

-- keys of two lengths differ
pub key-unequal : (a b : List ℕ) → (length a ≡ length b → ⊥) → same_key a b ≡ false
unfolding same_key
key-unequal a b h = same-unequal (upper_all a) (upper_all b) (λ e. h (sym (length-upper a) ∙ e ∙ length-upper b))

key-last : (a b : List ℕ) (i : ℕ) → i < length a → i < length b
    → same_key (take (suc i) a) (take (suc i) b) ≡ (eqb (upper (get_or a i 0)) (upper (get_or b i 0)) && same_key (take i a) (take i b))
unfolding same_key same upper_all
key-last [] b i p q = absurd (omega arith)
key-last (x ∷ a) [] i p q = absurd (omega arith)
key-last (x ∷ a) (y ∷ b) zero p q = refl
key-last (x ∷ a) (y ∷ b) (suc i) p q =
    rw (key-last a b i (omega arith) (omega arith)) (and-swap (eqb (upper x) (upper y)) (eqb (upper (get_or a i 0)) (upper (get_or b i 0))) (same_key (take i a) (take i b)))

-- what is before i: the letters just before it, and what is before them
key_step : (a b : List ℕ) (i : ℕ) → 0 < i → i ≤ length a → i ≤ length b
    → same_key (take i a) (take i b) ≡ (eqb (upper (get_or a (i - 1) 0)) (upper (get_or b (i - 1) 0)) && same_key (take (i - 1) a) (take (i - 1) b))
key_step a b i h p q =
    let e : i ≡ suc (i - 1) = omega arith in
    ap (λ (n : ℕ). same_key (take n a) (take n b)) e ∙ key-last a b (i - 1) (omega arith) (omega arith)

pub key-alike : (a b : List ℕ) (i : ℕ) → 0 < i → i ≤ length a → i ≤ length b → eqb (upper (get_or a (i - 1) 0)) (upper (get_or b (i - 1) 0)) ≡ true
    → same_key (take i a) (take i b) ≡ same_key (take (i - 1) a) (take (i - 1) b)
key-alike a b i h p q e = key_step a b i h p q ∙ rw e

pub key-differs : (a b : List ℕ) (i : ℕ) → 0 < i → i ≤ length a → i ≤ length b → eqb (upper (get_or a (i - 1) 0)) (upper (get_or b (i - 1) 0)) ≡ false
    → same_key (take i a) (take i b) ≡ false
key-differs a b i h p q e = key_step a b i h p q ∙ rw e

pub key-nil : same_key [] [] ≡ true
unfolding same_key same upper_all
key-nil = refl

-- ---- tests that read keys without regard to case

pub record Caseless (p : List ℕ → Bool) : Type 0 where
  pub cased : (a b : List ℕ) → same_key a b ≡ true → p a ≡ p b

pub same-caseless : (key : List ℕ) → Caseless (same_key key)
same-caseless key = record { cased = λ a b e. unfold same_key in rw (key-true a b e) }

-- ---- the lookup

-- every name has a length from m to n
abbrev pub all_lengths : ℕ → ℕ → List (List ℕ) → Bool
all_lengths m n [] = true
all_lengths m n (x ∷ ns) = among m n (length x) && all_lengths m n ns

pub which-same : (ns : List (List ℕ)) (a b : List ℕ) → same_key a b ≡ true → which_of ns a ≡ which_of ns b
unfolding which_of same_key
which-same [] a b e = refl
which-same (n ∷ ns) a b e = rw (key-true a b e, which-same ns a b e)

-- the search, by std's word for it
place_step : (t : Bool) (n m : ℕ) (o : Option ℕ) → cond (nat_lt n m) (Some n) None ≡ o
    → cond (nat_lt (cond (not t) (1 + n) 0) (suc m)) (Some (cond (not t) (1 + n) 0)) None ≡ cond t (Some 0) (option_map suc o)
place_step t n m o e = grind (arith, common_steps)

pub which-place : {X : Type 0} (name : X → List ℕ) (xs : List X) (k : List ℕ) → position (λ (x : X). same_key k (name x)) xs ≡ which_of (map name xs) k
unfolding which_of
which-place name [] k = refl
which-place name (x ∷ xs) k = place_step (same_key k (name x)) _ (length xs) _ (which-place name xs k)

-- the place found is a place of the list, and its name is the key without case
pub which-is : (ns : List (List ℕ)) (k : List ℕ) (i : ℕ) → which_of ns k ≡ Some i → (i < length ns) × (same_key k (get_or ns i []) ≡ true)
unfolding which_of
which-is [] k i e = absurd (let z : ◌≡◌ {A = ℕ} 0 1 = cc in omega arith)
which-is (n ∷ ns) k i e = go (same_key k n) (which_of ns k) refl refl e (which-is ns k)
  where
    go : (t : Bool) (o : Option ℕ) → same_key k n ≡ t → which_of ns k ≡ o → cond t (Some 0) (option_map suc o) ≡ Some i
        → ((j : ℕ) → which_of ns k ≡ Some j → (j < length ns) × (same_key k (get_or ns j []) ≡ true))
        → (i < suc (length ns)) × (same_key k (get_or (n ∷ ns) i []) ≡ true)
    go true o u w e f = let q : ◌≡◌ {A = ℕ} 0 i = cc in rw (← q) (omega arith, u)
    go false None u w e f = absurd (let z : ◌≡◌ {A = ℕ} 0 1 = cc in omega arith)
    go false (Some j) u w e f = let q : suc j ≡ i = cc in let (l, s) = f j w in rw (← q) (omega arith, s)

-- a key is none of names that have other lengths
pub which-length : (m n : ℕ) (ns : List (List ℕ)) (k : List ℕ) → among m n (length k) ≡ false → all_lengths m n ns ≡ true → which_of ns k ≡ None
unfolding which_of
which-length m n [] k h e = refl
which-length m n (x ∷ ns) k h e =
    let (p, q) = (and-eq-true_iff (among m n (length x)) (all_lengths m n ns)).0 e in
    rw (key-unequal k x (λ l. true≢false (sym p ∙ ap (among m n) (sym l) ∙ h)), which-length m n ns k h q)

pub short-key : (k : List ℕ) → length k < 12 → which_key k ≡ None
unfolding which_key keys
short-key k h = which-length 12 21 keys k (rw (lt-leb 12 (length k) h)) refl

pub long-key : (k : List ℕ) → 21 < length k → which_key k ≡ None
unfolding which_key keys
long-key k h = which-length 12 21 keys k (rw (lt-leb (length k) 21 h) (and-false (leb 12 (length k)))) refl

-- a key has one of eight places
pub which-below : (k : List ℕ) (i : ℕ) → which_key k ≡ Some i → i < 8
unfolding which_key keys
which-below k i e = (which-is keys k i e).0

-- the eight keys are good keys, each found at its place
pub keys_found : (map which_key keys ≡ Some 0 ∷ Some 1 ∷ Some 2 ∷ Some 3 ∷ Some 4 ∷ Some 5 ∷ Some 6 ∷ Some 7 ∷ [])
    × (map is_key keys ≡ true ∷ true ∷ true ∷ true ∷ true ∷ true ∷ true ∷ true ∷ [])
unfolding keys which_key which_of same_key same upper_all upper is_key is_reserved all
keys_found = (refl, refl)

-- ---- the eight keys and their sub-lists

pub from-caseless : (n : ℕ) → Caseless (is_from n)
from-caseless n = record { cased = λ a b e. unfold is_from which_key in rw (which-same keys a b e) }

-- the shorter sub-list is part of the longer one
pub from_less : (m n : ℕ) → m ≤ n → (key : List ℕ) → is_from n key ≡ true → is_from m key ≡ true
unfolding is_from
from_less m n h key e = go (which_key key) e
  where
    go : (o : Option ℕ) → found o false (λ i. leb n i) ≡ true → found o false (λ i. leb m i) ≡ true
    go None e = e
    go (Some i) e = let l : n ≤ i = leb-true n i e in le-leb m i (omega arith)

-- UNDONE_KEYS and REPLAYGAIN_KEYS are of the eight
pub undone-eight : (key : List ℕ) → is_undone key ≡ true → is_mp3gain_key key ≡ true
undone-eight key e = from_less 0 2 (omega arith) key e

-- UNDONE_KEYS with the two that level sets are the eight
pub eight_are : (k : List ℕ) → is_mp3gain_key k ≡ (is_undone k || (same_key undo_key k || same_key minmax_key k))
unfolding is_from which_key which_of keys undo_key minmax_key
eight_are k = rw (key-comm undo_key k, key-comm minmax_key k) (go (same_key k undo_key) (same_key k minmax_key) (which_of (drop 2 keys) k))
  where
    go : (a b : Bool) (o : Option ℕ) → found (cond a (Some 0) (option_map suc (cond b (Some 0) (option_map suc o)))) false (λ i. leb 0 i)
        ≡ (found (cond a (Some 0) (option_map suc (cond b (Some 0) (option_map suc o)))) false (λ i. leb 2 i) || (a || b))
    go true b o = refl
    go false true o = refl
    go false false None = refl
    go false false (Some i) = rw (le-leb 0 (suc (suc i)) (omega arith), le-leb 2 (suc (suc i)) (omega arith))

-- the keys that level sets are of the eight, and none of UNDONE_KEYS
pub undo-eight : (is_mp3gain_key undo_key ≡ true) × (is_mp3gain_key minmax_key ≡ true)
unfolding is_from which_key which_of keys undo_key minmax_key same_key same upper_all upper
undo-eight = (refl, refl)

-- and they are good keys
pub undo-keys : (is_key undo_key ≡ true) × (is_key minmax_key ≡ true)
unfolding is_key undo_key minmax_key is_reserved which_of same_key same upper_all upper all
undo-keys = (refl, refl)

-- a key that is none of the eight is neither of them
pub apart : (p : List ℕ → Bool) → Caseless p → (key other : List ℕ) → p key ≡ false → p other ≡ true → same_key key other ≡ false
apart p c key other n y = go (same_key key other) refl
  where
    go : (a : Bool) → same_key key other ≡ a → same_key key other ≡ false
    go true e = absurd (true≢false (sym y ∙ sym (c.cased key other e) ∙ n))
    go false e = e

pub not-undo : (key : List ℕ) → is_mp3gain_key key ≡ false → same_key key undo_key ≡ false
not-undo key n = apart is_mp3gain_key (from-caseless 0) key undo_key n undo-eight.0

-- ---- good keys

-- a good key has no zero byte
pub printable-whole : (s : List ℕ) → all printable s ≡ true → place_of 0 s ≡ length s
unfolding all place_of
printable-whole [] p = refl
printable-whole (b ∷ s) p =
    let (q, r) = (and-eq-true_iff (printable b) (all printable s)).0 p in
    let (l, h) = in-range 32 126 b q in
    rw (ne_eqb b 0 (λ z. omega arith)) (ap suc (printable-whole s r))

printable-byte : (b : ℕ) → printable b ≡ true → printable (upper b) ≡ true
unfolding upper
printable-byte b q = go (among 97 122 b) refl
  where
    go : (t : Bool) → among 97 122 b ≡ t → printable (upper b) ≡ true
    go true e =
        let (l, h) = in-range 97 122 b e in
        rw (e, le-leb 32 (b - 32) (omega arith), le-leb (b - 32) 126 (omega arith))
    go false e = rw e q

pub printable-upper : (s : List ℕ) → all printable s ≡ true → all printable (upper_all s) ≡ true
unfolding all upper_all
printable-upper [] p = refl
printable-upper (b ∷ s) p =
    let (q, r) = (and-eq-true_iff (printable b) (all printable s)).0 p in
    rw (printable-byte b q) (printable-upper s r)

pub key-printable : (k : List ℕ) → is_key k ≡ true → all printable k ≡ true
unfolding is_key
key-printable k e =
    let (l, r) = (and-eq-true_iff (among 2 255 (length k)) (all printable k && not (is_reserved k))).0 e in
    ((and-eq-true_iff (all printable k) (not (is_reserved k))).0 r).0

-- the length of a good key
pub key-length : (k : List ℕ) → is_key k ≡ true → (2 ≤ length k) × (length k ≤ 255)
unfolding is_key
key-length k e =
    let (l, r) = (and-eq-true_iff (among 2 255 (length k)) (all printable k && not (is_reserved k))).0 e in
    in-range 2 255 (length k) l
