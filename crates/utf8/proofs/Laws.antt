-- Laws of `step_of` and `valid`.
use Prim.Native.Nat.{ℕ, zero, suc, ◌≤◌, ◌<◌}
use native.Mathlib.Omega.{arith}
use mathlib.Core.Path.{◌≡◌, refl, sym, ap, ◌∙◌}
use mathlib.Core.Bool.{Bool, true, false, ◌&&◌, cond, and-eq-true_iff}
use mathlib.Core.List.{List, [], ◌∷◌, ◌++◌, append_assoc, append-nil}
use lib.Dec.{ltb, eqb}
use lib.ListN.{length, take, drop, take-append-drop}
use lib.Seq.{drop_at, length-take-le}
use borrow.Author.Tests.{eqb-true, ltb-true, le-leb, eq-eqb}
use Rattle.utf8.specs.declared.Part.TheVariants.{Good, Bad, End}
use Rattle.lists.specs.Bytes.{among, all}
use Rattle.utf8.specs.Utf8.{number_of, class_at, run, judged, step_of, size, after, whole, valid_from, valid, plain}

-- ---- one step

-- what holds of the bytes behind the next one, by whether it is there
pub counts : (t : Bool) (m k : ℕ) → m ≤ k → cond t (suc m) 0 ≤ suc k
counts true m k h = omega arith
counts false m k h = omega arith

pub run-within : (n low high : ℕ) (s : List ℕ) → run n low high s ≤ length s
unfolding run
run-within zero low high s = omega arith
run-within (suc n) low high [] = omega arith
run-within (suc n) low high (b ∷ s) = counts (among low high b) _ _ (run-within n 0x80 0xBF s)

pub goes_on : (t : Bool) (m x k n : ℕ) → cond t (suc m) 0 ≡ suc k → (m ≡ k → x ≡ n) → cond t (suc x) 0 ≡ suc n
goes_on true m x k n e f = ap suc (f (omega arith))
goes_on false m x k n e f = absurd (omega arith)

-- the bytes that follow count whatever stands behind them
run_alone : (n low high : ℕ) (s t : List ℕ) → run n low high s ≡ n → run n low high (take n s ++ t) ≡ n
unfolding run
run_alone zero low high s t e = refl
run_alone (suc n) low high [] t e = absurd (omega arith)
run_alone (suc n) low high (b ∷ s) t e = goes_on (among low high b) _ _ n n e (run_alone n 0x80 0xBF s t)

size-judged : (m n : ℕ) → size (judged m n) ≡ suc n
size-judged m n = go (eqb n m)
  where
    go : (t : Bool) → size (cond t (Good (suc n)) (Bad (suc n))) ≡ suc n
    go true = refl
    go false = refl

whole-judged : (m n : ℕ) → whole (judged m n) ≡ true → n ≡ m
whole-judged m n h = go (eqb n m) refl h
  where
    go : (t : Bool) → eqb n m ≡ t → whole (cond t (Good (suc n)) (Bad (suc n))) ≡ true → n ≡ m
    go true e h = eqb-true n m e
    go false e h = let z : ◌≡◌ {A = ℕ} 0 1 = cc in omega arith

-- the first part lies within the text
pub step-within : (s : List ℕ) → size (step_of s) ≤ length s
unfolding step_of
step-within [] = omega arith
step-within (b ∷ s) = let c = class_at (number_of b) in rw size-judged (omega (arith, run-within c.more c.low c.high s))

-- and is not empty where the text is not
pub step-moves : (b : ℕ) (s : List ℕ) → 0 < size (step_of (b ∷ s))
unfolding step_of
step-moves b s = rw size-judged (omega arith)

-- a character of n + 1 bytes: it is one, whatever stands behind it
pub record Char (b : ℕ) (s : List ℕ) : Type 0 where
  pub n : ℕ
  pub fits : n ≤ length s
  pub alone : (t : List ℕ) → step_of (b ∷ (take n s ++ t)) ≡ Good (suc n)

pub char : (b : ℕ) (s : List ℕ) → whole (step_of (b ∷ s)) ≡ true → Char b s
unfolding step_of
char b s h =
    let c = class_at (number_of b) in
    let n = c.more in
    let all : run n c.low c.high s ≡ n = whole-judged n _ h in
    record {
      n = n;
      fits = omega (arith, run-within n c.low c.high s);
      alone = λ t. rw (run_alone n c.low c.high s t all, eq-eqb n n refl);
    }

pub char_is : {b : ℕ} {s : List ℕ} (x : Char b s) → step_of (b ∷ s) ≡ Good (suc x.n)
char_is {b} {s} x = rw take-append-drop at (x.alone (drop x.n s))

pub rejoin : (n : ℕ) (s t : List ℕ) → take n s ++ (drop n s ++ t) ≡ s ++ t
rejoin n s t = sym (append_assoc (take n s) (drop n s) t) ∙ rw take-append-drop

pub char-front : {b : ℕ} {s : List ℕ} (x : Char b s) (t : List ℕ) → step_of (b ∷ (s ++ t)) ≡ Good (suc x.n)
char-front {b} {s} x t = rw (← rejoin x.n s t) (x.alone (drop x.n s ++ t))

-- ---- steps one after the other

valid-skip : (k : ℕ) (s : List ℕ) → valid_from k s ≡ valid_from 0 (drop k s)
unfolding valid_from
valid-skip zero s = refl
valid-skip (suc k) [] = refl
valid-skip (suc k) (b ∷ s) = valid-skip k s

-- behind a part stands what is behind the bytes after its first
pub drop-moves : (n b : ℕ) (s : List ℕ) → 0 < n → drop (after n) s ≡ drop n (b ∷ s)
drop-moves zero b s h = absurd (omega arith)
drop-moves (suc n) b s h = refl

-- the first part, and then the rest
pub valid-turn : (s : List ℕ) → valid s ≡ (whole (step_of s) && valid (drop (size (step_of s)) s))
unfolding valid valid_from
valid-turn [] = unfold step_of in refl
valid-turn (b ∷ s) =
    ap (λ (t : Bool). whole (step_of (b ∷ s)) && t)
    (valid-skip (after (size (step_of (b ∷ s)))) s ∙ ap (valid_from 0) (drop-moves (size (step_of (b ∷ s))) b s (step-moves b s)))

-- a valid front decides nothing
valid-front : (a : List ℕ) (k : ℕ) (t : List ℕ) → valid_from k a ≡ true → k ≤ length a → valid_from k (a ++ t) ≡ valid_from 0 t
unfolding valid_from
valid-front [] zero t v h = refl
valid-front [] (suc k) t v h = absurd (omega arith)
valid-front (b ∷ a) (suc k) t v h = valid-front a k t v (omega arith)
valid-front (b ∷ a) zero t v h =
    let (w, r) = (and-eq-true_iff (whole (step_of (b ∷ a))) _).0 v in
    let x = char b a w in
    let rest : valid_from x.n a ≡ true = rw (char_is x) at r in
    rw (char-front x t) (valid-front a x.n t rest x.fits)

-- ---- the laws

-- behind what is valid, only what stands behind it decides
pub valid-append : (a t : List ℕ) → valid a ≡ true → valid (a ++ t) ≡ valid t
unfolding valid
valid-append a t v = valid-front a 0 t v (omega arith)

-- a character is valid in front of what is valid
pub valid-good : (s : List ℕ) (b n : ℕ) → step_of (b ∷ s) ≡ Good n → (t : List ℕ) → valid_from 0 t ≡ true → valid_from 0 (take n (b ∷ s) ++ t) ≡ true
unfolding valid_from
valid-good s b zero e t v = v
valid-good s b (suc n) e t v =
    let x = char b s (rw e) in
    let m : n ≡ x.n = let q : Good (suc n) ≡ Good (suc x.n) = sym e ∙ char_is x in cc in
    rw (m, x.alone t, valid-skip x.n (take x.n s ++ t), drop_at (take x.n s) t x.n (length-take-le x.n s x.fits)) v

-- and alone
pub valid-char : (s : List ℕ) (n : ℕ) → step_of s ≡ Good n → valid (take n s) ≡ true
unfolding valid
valid-char [] n e = let q : step_of [] ≡ End = unfold step_of in refl in let z : ◌≡◌ {A = ℕ} 0 1 = cc in absurd (omega arith)
valid-char (b ∷ s) n e = rw append-nil at (valid-good s b n e [] (unfold valid_from in refl))

-- ASCII is valid; of a quoted text, `valid-plain (ascii "..") refl` under `unfolding all`
pub valid-plain : (s : List ℕ) → plain s ≡ true → valid s ≡ true
unfolding all valid valid_from step_of class_at number_of run
valid-plain [] h = refl
valid-plain (b ∷ s) h =
    let (p, q) = (and-eq-true_iff (ltb b 0x80) (plain s)).0 h in
    let low : b ≤ 0x7F = omega (arith, ltb-true b 0x80 p) in
    rw (le-leb 0 b (omega arith), le-leb b 0x7F low) (valid-plain s q)
