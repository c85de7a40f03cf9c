-- A text one part after another.
use Prim.Native.Nat.{ℕ, ◌+◌, ◌-◌, ◌≤◌, ◌<◌}
use native.Mathlib.Omega.{arith}
use mathlib.Core.Path.{◌≡◌, refl, sym, ap, ◌∙◌}
use mathlib.Core.List.{List, [], ◌++◌, append-nil}
use lib.ListN.{length, drop, length-append}
use lib.Seq.{drop-drop}
use Rattle.lists.specs.Write.{splice, part}
use Rattle.lists.proofs.Places.{length_part}
use Rattle.lists.proofs.Wrote.{next}
use Rattle.utf8.specs.declared.Part.{Part}
use Rattle.utf8.specs.declared.Part.TheVariants.{Good, Bad, End}
use Rattle.utf8.specs.Utf8.{step_of}
use Rattle.utf8.proofs.Turn.{Turn, good, bad, ended}
use Rattle.lossy.specs.Lossy.{mark, lossy, lossy_from}
use Rattle.lossy.proofs.Laws.{lossy-turn}
use Rattle.lossy.proofs.Written.{State, goes_on, fits}

-- the part of n bytes at a place becomes w, and the rest follows
pub record Next (s : List ℕ) (at n : ℕ) (w : List ℕ) : Type 0 where
  pub moves : 0 < n
  pub inside : at + n ≤ length s
  pub is : lossy (drop at s) ≡ w ++ lossy (drop (at + n) s)
  pub sizes : length (lossy (drop at s)) ≡ length w + length (lossy (drop (at + n) s))

-- a character stands as it is
pub character : {s : List ℕ} {at n : ℕ} {x : Part} → x ≡ step_of (drop at s) → x ≡ Good n → Next s at n (part at (at + n) s)
character {s} {at} {n} e f =
    let t : Turn s at (Good n) = good e f in
    let p : step_of (drop at s) ≡ Good n = sym e ∙ f in
    let z : at + n - at ≡ n = omega arith in
    let is : lossy (drop at s) ≡ part at (at + n) s ++ lossy (drop (at + n) s) = lossy-turn (drop at s) ∙ rw (p, drop-drop, z) in
    record { moves = t.moves; inside = t.inside; is = is; sizes = ap length is ∙ rw length-append }

pub character-size : {s : List ℕ} {at n : ℕ} → Next s at n (part at (at + n) s) → length (part at (at + n) s) ≡ n
character-size {s} {at} {n} x = omega (arith, length_part at (at + n) s x.inside)

-- an ill-formed part becomes a mark
pub ill-formed : {s : List ℕ} {at n : ℕ} {x : Part} → x ≡ step_of (drop at s) → x ≡ Bad n → Next s at n mark
ill-formed {s} {at} {n} e f =
    let t : Turn s at (Bad n) = bad e f in
    let p : step_of (drop at s) ≡ Bad n = sym e ∙ f in
    let is : lossy (drop at s) ≡ mark ++ lossy (drop (at + n) s) = lossy-turn (drop at s) ∙ rw (p, drop-drop) in
    record { moves = t.moves; inside = t.inside; is = is; sizes = ap length is ∙ rw length-append }

-- at the end nothing is left
pub nothing_left : (s : List ℕ) (at : ℕ) {x : Part} → x ≡ step_of (drop at s) → x ≡ End → lossy (drop at s) ≡ []
nothing_left s at e f =
    let empty : lossy [] ≡ [] = unfold lossy lossy_from in refl in
    rw (ended s at e f) empty

-- ---- written

module _ {s out₀ out : List ℕ} {o₀ at o : ℕ} (x : State s out₀ o₀ out at o) where
  -- there is room for what the next part becomes, and once it is written the rest is to come
  module _ {n : ℕ} {w : List ℕ} (k : Next s at n w) where
    pub fits_next : o + length w ≤ length out
    fits_next = omega (arith, fits x w (lossy (drop (at + n) s)) k.is)

    pub went_on : {out₁ : List ℕ} {p : ℕ} → (p ≡ o + length w) × (out₁ ≡ splice out o w) → length out₁ ≡ length out → State s out₀ o₀ out₁ (at + n) p
    went_on y l =
        record { done = x.done ++ w; same = goes_on x w (lossy (drop (at + n) s)) k.is; wrote = next x.wrote w y; inside = k.inside; long = l ∙ x.long; room = x.room }

  -- nothing is to come
  pub ended-there : lossy (drop at s) ≡ [] → (o ≡ o₀ + length (lossy s)) × (out ≡ splice out₀ o₀ (lossy s))
  ended-there f =
      let all : lossy s ≡ x.done = x.same ∙ rw (f, append-nil) in
      (x.wrote.ends ∙ rw all, x.wrote.is ∙ rw all)
