-- Laws of gain texts as code reads them.
use Prim.Native.Nat.{ℕ, ◌+◌, ◌*◌, ◌≤◌, ◌<◌}
use native.Mathlib.Omega.{arith}
use mathlib.Core.Path.{◌≡◌, refl}
use mathlib.Core.Bool.{Bool, true, false, ◌&&◌, cond}
use Rattle.std.specs.Prelude.{Option, None, Some, option_map}
use mathlib.Core.List.{List}
use lib.ListN.{length, take, drop, length-take}
use lib.Dec.{leb}
use borrow.Author.Tests.{leb-true}
use Rattle.lists.specs.Choice.{found}
use Rattle.number.specs.Fields.{before, behind}
use Rattle.number.specs.Reading.{natural, is_minus, unsigned}
use Rattle.number.proofs.Digits.{natural-below}
use Rattle.decibels.specs.Gain.{is_unit, fraction, millionths, parse_gain}
use Rattle.decibels.specs.declared.Millionths.{Millionths}

-- ---- six digits at the most

pub six : (s : List ℕ) → length (take 6 s) ≤ 6
six s = rw length-take (omega arith)

-- ---- the sizes of what is read

some_is : {A : Type 0} {a b : A} → Some a ≡ Some b → a ≡ b
some_is e = cc

fraction-below : (s : List ℕ) (n : ℕ) → fraction s ≡ Some n → n < 1000000
unfolding fraction
fraction-below s n e = go (leb 6 (length s) && is_unit (drop 6 s)) e
  where
    go : (t : Bool) → cond t (natural (take 6 s)) None ≡ Some n → n < 1000000
    go true e = natural-below (take 6 s) n 6 (six s) e
    go false e = absurd (let z : ◌≡◌ {A = ℕ} 0 1 = cc in omega arith)

millionths-below : (s : List ℕ) (n : ℕ) → millionths s ≡ Some n → n < 10000000000
unfolding millionths
millionths-below s n e = go (behind 0x2E s) e
  where
    back : (t : List ℕ) (a : ℕ) → a < 10000 → (o : Option ℕ) → fraction t ≡ o → option_map (λ b. a * 1000000 + b) o ≡ Some n → n < 10000000000
    back t a h None f e = absurd (let z : ◌≡◌ {A = ℕ} 0 1 = cc in omega arith)
    back t a h (Some b) f e = let q : a * 1000000 + b ≡ n = some_is e in omega (arith, fraction-below t b f)

    front : (t : List ℕ) → length (before 0x2E s) ≤ 4 → (o : Option ℕ) → natural (before 0x2E s) ≡ o
        → found o None (λ a. option_map (λ b. a * 1000000 + b) (fraction t)) ≡ Some n → n < 10000000000
    front t h None f e = absurd (let z : ◌≡◌ {A = ℕ} 0 1 = cc in omega arith)
    front t h (Some a) f e = back t a (natural-below (before 0x2E s) a 4 h f) (fraction t) refl e

    test : (t : List ℕ) (b : Bool) → leb (length (before 0x2E s)) 4 ≡ b
        → cond b (found (natural (before 0x2E s)) None (λ a. option_map (λ b. a * 1000000 + b) (fraction t))) None ≡ Some n → n < 10000000000
    test t true u e = front t (leb-true (length (before 0x2E s)) 4 u) (natural (before 0x2E s)) refl e
    test t false u e = absurd (let z : ◌≡◌ {A = ℕ} 0 1 = cc in omega arith)

    go : (o : Option (List ℕ)) → found o None (λ t. cond (leb (length (before 0x2E s)) 4) (found (natural (before 0x2E s)) None (λ a. option_map (λ b. a * 1000000 + b) (fraction t))) None) ≡ Some n
        → n < 10000000000
    go None e = absurd (let z : ◌≡◌ {A = ℕ} 0 1 = cc in omega arith)
    go (Some t) e = test t (leb (length (before 0x2E s)) 4) refl e

-- a gain that was read has whole millionths, and ten digits of them
pub gain-below : (s : List ℕ) (a : Millionths) → parse_gain s ≡ Some a → (a.1 < 10000000000) × (a.2 ≡ 0)
unfolding parse_gain
gain-below s a e = go (millionths (unsigned s)) refl e
  where
    go : (o : Option ℕ) → millionths (unsigned s) ≡ o → option_map (λ n. record { 0 = is_minus s; 1 = n; 2 = 0 }) o ≡ Some a → (a.1 < 10000000000) × (a.2 ≡ 0)
    go None f e = absurd (let z : ◌≡◌ {A = ℕ} 0 1 = cc in omega arith)
    go (Some n) f e =
        let q : ◌≡◌ {A = Millionths} (record { 0 = is_minus s; 1 = n; 2 = 0 }) a = some_is e in
        rw (← q) (millionths-below (unsigned s) n f, refl)
