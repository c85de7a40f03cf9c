-- One turn of a loop over the parts of a text.
use Prim.Native.Nat.{ℕ, ◌+◌, ◌≤◌, ◌<◌}
use native.Mathlib.Omega.{arith}
use mathlib.Core.Path.{◌≡◌, refl, sym, ◌∙◌}
use mathlib.Core.Bool.{◌&&◌}
use mathlib.Core.List.{List, [], ◌∷◌}
use lib.ListN.{length, drop, length-drop}
use lib.Seq.{drop-drop}
use Rattle.utf8.specs.declared.Part.{Part}
use Rattle.utf8.specs.declared.Part.TheVariants.{Good, Bad, End}
use Rattle.utf8.specs.Utf8.{step_of, size, whole, valid}
use Rattle.utf8.proofs.Laws.{step-within, step-moves, valid-turn}

-- x stands at a place of s, and the rest begins behind it
pub record Turn (s : List ℕ) (at : ℕ) (x : Part) : Type 0 where
  pub moves : 0 < size x
  pub inside : at + size x ≤ length s
  pub tells : valid (drop at s) ≡ (whole x && valid (drop (at + size x) s))

moved : (t : List ℕ) (x : Part) → step_of t ≡ x → (x ≡ End → ⊥) → 0 < size x
unfolding step_of
moved [] x e h = absurd (h (sym e))
moved (b ∷ t) x e h = rw (← e) (step-moves b t)

turn : (s : List ℕ) (at : ℕ) (x : Part) → step_of (drop at s) ≡ x → (x ≡ End → ⊥) → Turn s at x
turn s at x e h =
    let m = moved (drop at s) x e h in
    let w : size x ≤ length (drop at s) = rw e at (step-within (drop at s)) in
    record {
      moves = m;
      inside = omega (arith, length-drop at s);
      tells = valid-turn (drop at s) ∙ rw (e, drop-drop);
    }

pub good : {s : List ℕ} {at n : ℕ} {x : Part} → x ≡ step_of (drop at s) → x ≡ Good n → Turn s at (Good n)
good {s} {at} {n} e f = turn s at (Good n) (sym e ∙ f) (λ g. let z : ◌≡◌ {A = ℕ} 0 1 = cc in omega arith)

pub bad : {s : List ℕ} {at n : ℕ} {x : Part} → x ≡ step_of (drop at s) → x ≡ Bad n → Turn s at (Bad n)
bad {s} {at} {n} e f = turn s at (Bad n) (sym e ∙ f) (λ g. let z : ◌≡◌ {A = ℕ} 0 1 = cc in omega arith)

nothing : (t : List ℕ) → step_of t ≡ End → t ≡ []
nothing [] e = refl
nothing (b ∷ t) e = let h : 0 < size End = rw e at (step-moves b t) in absurd (omega arith)

pub ended : (s : List ℕ) (at : ℕ) {x : Part} → x ≡ step_of (drop at s) → x ≡ End → drop at s ≡ []
ended s at e f = nothing (drop at s) (sym e ∙ f)
