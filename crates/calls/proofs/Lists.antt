-- Tests and answers taken apart.
use mathlib.Core.Path.{◌≡◌, refl}
use mathlib.Core.Bool.{Bool, true, false, ◌&&◌, ◌||◌, cond, and-eq-true_iff}
use Rattle.std.proofs.lemmas.Option.{none-some}
use Rattle.std.specs.Prelude.{Option, None, Some}
use Rattle.lists.specs.Choice.{provided}

pub both : (a b : Bool) → (a && b) ≡ true → (a ≡ true) × (b ≡ true)
both a b e = (and-eq-true_iff a b).0 e

pub and-of : {a b : Bool} → a ≡ true → b ≡ true → (a && b) ≡ true
and-of {a} {b} p q = rw (p, q)

pub or-of : (a : Bool) {b : Bool} → b ≡ true → (a || b) ≡ true
or-of true q = refl
or-of false q = q

-- an answer under a test
pub cond-some : {A : Type 0} (t : Bool) (o : Option A) (r : A) → cond t o None ≡ Some r → (t ≡ true) × (o ≡ Some r)
cond-some true o r e = (refl, e)
cond-some false o r e = absurd (none-some r e)

-- an answer that passed a test
pub provided-some : {A : Type 0} (p : A → Bool) (o : Option A) (r : A) → provided p o ≡ Some r → (o ≡ Some r) × (p r ≡ true)
provided-some p None r e = absurd (none-some r e)
provided-some p (Some a) r e = go (p a) refl e
  where
    go : (t : Bool) → p a ≡ t → cond t (Some a) None ≡ Some r → (◌≡◌ {A = Option _} (Some a) (Some r)) × (p r ≡ true)
    go true q e = let i : a ≡ r = cc in (e, rw (← i) q)
    go false q e = absurd (none-some r e)
