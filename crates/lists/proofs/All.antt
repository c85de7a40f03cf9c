-- Laws of a test over each element of a list: element by element, and by blocks. Assumes nothing.
use Prim.Native.Nat.{ℕ, zero, suc, ◌+◌, ◌-◌, ◌≤◌, ◌<◌}
use native.Mathlib.Numerals.{add-one}
use native.Mathlib.Omega.{arith}
use mathlib.Core.Path.{◌≡◌, refl, sym, ap, ◌∙◌}
use mathlib.Core.Bool.{Bool, true, false, not, ◌&&◌, ◌||◌, and_assoc, and-eq-true_iff}
use mathlib.Core.List.{List, [], ◌∷◌}
use lib.ListN.{length, get_or, take, drop, length-drop, drop_of_length-le}
use lib.Seq.{take-length, get_or-drop, drop-cons, drop-drop}
use Rattle.std.specs.List.{list_all}
use Rattle.lists.specs.Bytes.{all}
use Rattle.lists.proofs.Same.{and-false}

module _ (p : ℕ → Bool) where
  -- as std has it
  pub all-is : (s : List ℕ) → list_all p s ≡ all p s
  unfolding all
  all-is [] = refl
  all-is (x ∷ s) = ap (λ t. p x && t) (all-is s)

  -- what is from i on: i, and what is behind it
  all-step : (s : List ℕ) (i : ℕ) → i < length s → all p (drop i s) ≡ (p (get_or s i 0) && all p (drop (i + 1) s))
  unfolding all
  all-step s i h = rw (drop-cons s i 0 h, add-one)

  -- nothing is from there on
  pub all_end : (s : List ℕ) (i : ℕ) → length s ≤ i → all p (drop i s) ≡ true
  unfolding all
  all_end s i h = rw (drop_of_length-le s {i = i} h)

  -- what is before a place, and what is from it on
  all_split : (n : ℕ) (s : List ℕ) → all p s ≡ (all p (take n s) && all p (drop n s))
  unfolding all
  all_split zero s = refl
  all_split (suc n) [] = refl
  all_split (suc n) (x ∷ s) = rw (all_split n s) (sym (and_assoc (p x) (all p (take n s)) (all p (drop n s))))

  -- one more element before a place
  all-last : (s : List ℕ) (k : ℕ) → k < length s → all p (take (suc k) s) ≡ (all p (take k s) && p (get_or s k 0))
  unfolding all
  all-last [] k h = absurd (omega arith)
  all-last (x ∷ s) zero h = and-true (p x)
    where
      and-true : (t : Bool) → (t && true) ≡ (true && t)
      and-true true = refl
      and-true false = refl
  all-last (x ∷ s) (suc k) h = rw (all-last s k (omega arith)) (sym (and_assoc (p x) (all p (take k s)) (p (get_or s k 0))))

  -- no element was gathered yet
  pub all_none : (s : List ℕ) → all p (take 0 s) ≡ true
  unfolding all
  all_none s = refl

  -- one more element of a block passes, or `other` says that one does not
  pub all-gather : (s : List ℕ) (at k : ℕ) (other : Bool) → at + k < length s → not other ≡ all p (take k (drop at s))
      → not (other || not (p (get_or s (at + k) 0))) ≡ all p (take (k + 1) (drop at s))
  all-gather s at k other h e =
      gather other (p (get_or s (at + k) 0)) ∙ rw (e, add-one, all-last (drop at s) k (simp length-drop (omega arith))) (simp get_or-drop)
    where
      gather : (o t : Bool) → not (o || not t) ≡ (not o && t)
      gather true t = refl
      gather false true = refl
      gather false false = refl

  -- every element passes where every one from i does
  module _ (s : List ℕ) (i : ℕ) (rest : all p s ≡ all p (drop i s)) where
    -- i passes, and then those behind it; or it does not
    pub all-next : i < length s → p (get_or s i 0) ≡ true → all p s ≡ all p (drop (i + 1) s)
    all-next h e = rest ∙ all-step s i h ∙ rw e

    pub all-not : i < length s → p (get_or s i 0) ≡ false → all p s ≡ false
    all-not h e = rest ∙ all-step s i h ∙ rw e

    -- so does a block of w elements, or it does not
    pub block-next : (w : ℕ) → all p (take w (drop i s)) ≡ true → all p s ≡ all p (drop (i + w) s)
    block-next w e = rest ∙ all_split w (drop i s) ∙ rw e (simp drop-drop)

    pub block-not : (w : ℕ) → all p (take w (drop i s)) ≡ false → all p s ≡ false
    block-not w e = rest ∙ all_split w (drop i s) ∙ rw e

    -- the same place, written otherwise
    pub all-at : (j : ℕ) → i ≡ j → all p s ≡ all p (drop j s)
    all-at j e = rest ∙ ap (λ (n : ℕ). all p (drop n s)) e

  -- the last w elements
  module _ (s : List ℕ) (w last : ℕ) (long : length s ≡ last + w) where
    last_block : take w (drop last s) ≡ drop last s
    last_block = let n : length (drop last s) ≡ w = simp length-drop (omega arith) in rw (← n) (take-length (drop last s))

    pub last-not : all p (take w (drop last s)) ≡ false → all p s ≡ false
    last-not e =
        let f : all p (drop last s) ≡ false = rw last_block at e in
        all_split last s ∙ rw f (and-false (all p (take last s)))

    -- where they pass, so do those from a place among them on
    pub last-all : all p (take w (drop last s)) ≡ true → (i : ℕ) → last ≤ i → all p (drop i s) ≡ true
    last-all e i h =
        let n = i - last in
        let t : all p (drop last s) ≡ true = rw last_block at e in
        let f : all p (drop n (drop last s)) ≡ true = ((and-eq-true_iff (all p (take n (drop last s))) (all p (drop n (drop last s)))).0 (sym (all_split n (drop last s)) ∙ t)).1 in
        let place : i ≡ last + n = omega arith in
        rw place (simp drop-drop at f)
