-- A text is cut in two where the second part does not begin with a byte from 80 to BF: each part is converted by itself.
use Prim.Native.Nat.{ℕ, zero, suc, ◌≤◌}
use native.Mathlib.Omega.{arith}
use mathlib.Core.Path.{◌≡◌, refl, sym}
use mathlib.Core.Bool.{false}
use mathlib.Core.List.{List, [], ◌∷◌, ◌++◌, append_assoc}
use lib.ListN.{length}
use lib.Seq.{take-append-le}
use Rattle.utf8.specs.declared.Part.{Part}
use Rattle.utf8.specs.declared.Part.TheVariants.{Good, Bad, End}
use Rattle.utf8.specs.Utf8.{begins, step_of, size, after}
use Rattle.utf8.proofs.Laws.{step-within}
use Rattle.utf8.proofs.Boundary.{step-stops, inside}
use Rattle.lossy.specs.Lossy.{text_of, lossy_from, lossy}

module _ (t : List ℕ) (h : begins 0x80 0xBF t ≡ false) where
  text-stops : (x : Part) (s : List ℕ) → size x ≤ length s → text_of x (s ++ t) ≡ text_of x s
  text-stops (Good n) s f = take-append-le n s t f
  text-stops (Bad n) s f = refl
  text-stops End s f = refl

  lossy-cut : (s : List ℕ) (k : ℕ) → k ≤ length s → lossy_from k (s ++ t) ≡ lossy_from k s ++ lossy_from 0 t
  unfolding lossy_from
  lossy-cut [] zero f = refl
  lossy-cut [] (suc k) f = absurd (omega arith)
  lossy-cut (b ∷ s) (suc k) f = lossy-cut s k (omega arith)
  lossy-cut (b ∷ s) zero f =
      let x = step_of (b ∷ s) in
      let w = step-within (b ∷ s) in
      rw (step-stops t h b s, text-stops x (b ∷ s) w, lossy-cut s (after (size x)) (inside t h (size x) s w)) (sym (append_assoc (text_of x (b ∷ s)) _ _))

pub lossy-boundary : (s t : List ℕ) → begins 0x80 0xBF t ≡ false → lossy (s ++ t) ≡ lossy s ++ lossy t
unfolding lossy
lossy-boundary s t h = lossy-cut t h s 0 (omega arith)
