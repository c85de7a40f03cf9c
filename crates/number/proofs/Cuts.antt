-- Laws of a text cut at a byte: by the place of the byte.
use Prim.Native.Nat.{ℕ, zero, suc, ◌+◌, ◌-◌, ◌≤◌, ◌<◌}
use native.Mathlib.Omega.{arith}
use native.Mathlib.Numerals.{add-one}
use native.Mathlib.Nat.{zero-add}
use mathlib.Core.Path.{◌≡◌, refl, sym, ap, ◌∙◌}
use mathlib.Core.Bool.{Bool, true, false, cond}
use Rattle.std.specs.Prelude.{None, Some}
use mathlib.Core.List.{List, [], ◌∷◌}
use lib.ListN.{length, take, drop, length-drop}
use lib.Dec.{ltb, eqb, leb-suc-suc}
use lib.Seq.{drop-drop, length-take-le}
use borrow.Author.Tests.{lt-ltb, le-ltb}
use Rattle.lists.proofs.Places.{place-within}
use Rattle.lists.proofs.Wrote.{rest}
use Rattle.lists.specs.Bytes.{place_of}
use Rattle.number.specs.Fields.{before, behind, field}

pub before-is : (c : ℕ) (s : List ℕ) → before c s ≡ take (place_of c s) s
unfolding before place_of
before-is c [] = refl
before-is c (x ∷ s) = go (eqb x c) (before-is c s)
  where
    go : (t : Bool) → before c s ≡ take (place_of c s) s → cond t [] (x ∷ before c s) ≡ take (cond t 0 (suc (place_of c s))) (x ∷ s)
    go true i = refl
    go false i = ap (λ r. x ∷ r) i

behind-is : (c : ℕ) (s : List ℕ) → behind c s ≡ cond (ltb (place_of c s) (length s)) (Some (drop (suc (place_of c s)) s)) None
unfolding behind place_of
behind-is c [] = refl
behind-is c (x ∷ s) = go (eqb x c) (behind-is c s)
  where
    go : (t : Bool) → behind c s ≡ cond (ltb (place_of c s) (length s)) (Some (drop (suc (place_of c s)) s)) None
        → cond t (Some s) (behind c s) ≡ cond (ltb (cond t 0 (suc (place_of c s))) (suc (length s))) (Some (drop (suc (cond t 0 (suc (place_of c s)))) (x ∷ s))) None
    go true i = rw (lt-ltb 0 (suc (length s)) (omega arith))
    go false i = rw (leb-suc-suc (suc (place_of c s)) (length s)) i

-- ---- where the code found c at e

module _ (c : ℕ) (s : List ℕ) (e : ℕ) (q : e ≡ place_of c s) where
  pub cut-before : take e s ≡ before c s
  cut-before = ap (λ (n : ℕ). take n s) q ∙ sym (before-is c s)

  pub cut-none : length s ≤ e → behind c s ≡ None
  cut-none h = behind-is c s ∙ rw (← q, le-ltb e (length s) h)

  pub cut-some : e < length s → behind c s ≡ Some (drop (e + 1) s)
  cut-some h = behind-is c s ∙ rw (← q, lt-ltb e (length s) h, add-one)

-- ---- a loop that counts fields: at is where the next begins, and a comma was found at e

place-from : (s : List ℕ) (at e : ℕ) → e ≡ at + place_of 0x2C (drop at s) → e - at ≡ place_of 0x2C (drop at s)
place-from s at e q = omega arith

pub place_end : (s : List ℕ) (at e : ℕ) → at ≤ length s → e ≡ at + place_of 0x2C (drop at s) → e ≤ length s
place_end s at e h q = omega (arith, place-within 0x2C (drop at s), length-drop at s)

pub field-here : (s : List ℕ) (at n e : ℕ) → n ≤ 0 → e ≡ at + place_of 0x2C (drop at s) → field n (drop at s) ≡ take (e - at) (drop at s)
unfolding field
field-here s at zero e h q = sym (cut-before 0x2C (drop at s) (e - at) (place-from s at e q))
field-here s at (suc n) e h q = absurd (omega arith)

pub field-none : (s : List ℕ) (at n e : ℕ) → 0 < n → e ≡ at + place_of 0x2C (drop at s) → e ≡ length s → field n (drop at s) ≡ take (length s - e) (drop e s)
unfolding field
field-none s at zero e h q l = absurd (omega arith)
field-none s at (suc n) e h q l =
    let z : length s - e ≡ 0 = omega arith in
    rw (cut-none 0x2C (drop at s) (e - at) (place-from s at e q) (rw length-drop (omega arith)), z)

pub field_next : (s : List ℕ) (at n e : ℕ) → 0 < n → e ≡ at + place_of 0x2C (drop at s) → e < length s → field n (drop at s) ≡ field (n - 1) (drop (e + 1) s)
unfolding field
field_next s at zero e h q l = absurd (omega arith)
field_next s at (suc n) e h q l =
    let k : at + (e - at + 1) ≡ e + 1 = omega arith in
    let d : drop (e - at + 1) (drop at s) ≡ drop (e + 1) s = drop-drop (e - at + 1) at s ∙ ap (λ (k : ℕ). drop k s) k in
    let m : suc n - 1 ≡ n = omega arith in
    rw (cut-some 0x2C (drop at s) (e - at) (place-from s at e q) (rw length-drop (omega arith)), m, d)

-- ---- the parts as code lends them: &s[..e] and &s[e + 1..], where c was looked for from the start

module _ (c : ℕ) (s : List ℕ) (e : ℕ) (q : e ≡ 0 + place_of c s) where
  place : e ≡ place_of c s
  place = q ∙ zero-add (place_of c s)

  pub front-is : take e s ≡ before c s
  front-is = cut-before c s e place

  pub within_text : e ≤ length s
  within_text = omega (arith, place, place-within c s)

  pub front-size : e ≡ length (take e s)
  front-size = sym (length-take-le e s within_text)

  pub length_front : length (before c s) ≡ e
  length_front = ap length (sym front-is) ∙ sym front-size

  pub no-back : e ≡ length s → behind c s ≡ None
  no-back h = cut-none c s e place (omega arith)

  pub within-back : (e ≡ length s → ⊥) → e + 1 ≤ length s
  within-back h = omega (arith, place, place-within c s)

  pub back_is : (e ≡ length s → ⊥) → behind c s ≡ Some (take (length s - (e + 1)) (drop (e + 1) s))
  back_is h = let l = within-back h in cut-some c s e place (omega arith) ∙ ap Some (sym (rest s (e + 1)))
