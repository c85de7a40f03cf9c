-- The loop that writes a text, and what the answers say.
use Prim.Native.Nat.{ℕ, ◌+◌, ◌≤◌, ◌<◌}
use native.Mathlib.Nat.{zero-add}
use native.Mathlib.Omega.{arith}
use mathlib.Core.Path.{◌≡◌, refl, sym, ap, ◌∙◌}
use mathlib.Core.Bool.{Bool, true, false, cond}
use Rattle.std.specs.Prelude.{Option, None, Some, option_map}
use mathlib.Core.List.{List, [], ◌++◌, append_assoc}
use lib.Dec.{ltb}
use borrow.Author.Tests.{lt-ltb, le-ltb, ltb-true, ltb-false}
use lib.ListN.{length, drop, length-append}
use Rattle.lossy.specs.Lossy.{mark, lossy}
use Rattle.lists.specs.Write.{over, splice, part}
use Rattle.lossy.specs.Write.{bytes, within}
use Rattle.utf8.specs.Runs.{Ran}
use Rattle.lists.proofs.Wrote.{Wrote, start, next}
use Rattle.lossy.proofs.Runs.{lossy-stretch, marked, unmarked}

-- done is written from o₀ to o, and what is left of s from `at` is to come
pub record State (s out₀ : List ℕ) (o₀ : ℕ) (out : List ℕ) (at o : ℕ) : Type 0 where
  pub done : List ℕ
  pub same : lossy s ≡ done ++ lossy (drop at s)
  pub wrote : Wrote out₀ o₀ done o out
  pub inside : at ≤ length s
  pub long : length out ≡ length out₀
  pub room : o₀ + length (lossy s) ≤ length out₀

pub begin : (s out : List ℕ) (o : ℕ) → o + length (lossy s) ≤ length out → State s out o out 0 o
begin s out o h = record { done = []; same = refl; wrote = start out o (omega arith); inside = omega arith; long = refl; room = h }

module _ {s out₀ out : List ℕ} {o₀ at o : ℕ} (x : State s out₀ o₀ out at o) where
  -- what is to come is w and l: it goes on behind w, and there is room for both
  pub goes_on : (w l : List ℕ) → lossy (drop at s) ≡ w ++ l → lossy s ≡ (x.done ++ w) ++ l
  goes_on w l e = x.same ∙ ap (λ (m : List ℕ). x.done ++ m) e ∙ sym (append_assoc x.done w l)

  pub fits : (w l : List ℕ) → lossy (drop at s) ≡ w ++ l → o + length w + length l ≤ length out
  fits w l e =
      let n : length (lossy s) ≡ (length x.done + length w) + length l = ap length (goes_on w l e) ∙ rw (length-append, length-append) in
      omega (arith, x.wrote.ends, x.long, x.room)

  -- there is room for a run, and for the mark behind it
  pub fits-run : {e b : ℕ} → Ran s at e b → o + length (part at e s) ≤ length out
  fits-run {e} {b} r = omega (arith, fits (part at e s) (lossy (drop e s)) (lossy-stretch r.stretch))

  pub fits-mark : {e b : ℕ} → Ran s at e b → (b ≡ 0 → ⊥) → o + length (part at e s) + 3 ≤ length out
  fits-mark {e} {b} r h = omega (arith, fits (part at e s) (mark ++ lossy (drop (e + b) s)) (marked r h))

  module _ {e b p : ℕ} (r : Ran s at e b) {out₁ : List ℕ} (y : (p ≡ o + length (part at e s)) × (out₁ ≡ splice out o (part at e s))) where
    -- a run and a mark were written
    pub replaced : {q : ℕ} {out₂ : List ℕ} → (b ≡ 0 → ⊥) → (q ≡ p + 3) × (out₂ ≡ splice out₁ p mark) → length out₂ ≡ length out → State s out₀ o₀ out₂ (e + b) q
    replaced h z l =
        record {
          done = (x.done ++ part at e s) ++ mark;
          same = goes_on (part at e s) (mark ++ lossy (drop (e + b) s)) (marked r h) ∙ sym (append_assoc (x.done ++ part at e s) mark _);
          wrote = next (next x.wrote (part at e s) y) mark z;
          inside = r.inside;
          long = l ∙ x.long;
          room = x.room;
        }

    -- the last run was written
    pub finished : b ≡ 0 → (p ≡ o₀ + length (lossy s)) × (out₁ ≡ splice out₀ o₀ (lossy s))
    finished h =
        let all : lossy s ≡ x.done ++ part at e s = x.same ∙ ap (λ (m : List ℕ). x.done ++ m) (unmarked r h) in
        let w = next x.wrote (part at e s) y in
        (w.ends ∙ rw all, w.is ∙ rw all)

-- ---- the answers

module _ (out w : List ℕ) where
  -- w was written at the front, where there is room
  pub converted : {xs : List ℕ} {r : ℕ} → length w ≤ length out → (r ≡ 0 + length w) × (xs ≡ splice out 0 w)
      → (Some r ≡ option_map length (within (length out) w)) × (xs ≡ over (bytes (within (length out) w)) out)
  converted h y = rw (le-ltb _ _ h) (ap Some (y.0 ∙ zero-add _), y.1 ∙ rw zero-add)

  -- there is no room, and nothing was written
  pub refused : length out < length w → (None ≡ option_map length (within (length out) w)) × (out ≡ over (bytes (within (length out) w)) out)
  refused h = rw (lt-ltb _ _ h) (refl, refl)

-- an answer tells whether there is room
module _ (w : List ℕ) {x : Option ℕ} where
  told : (t : Bool) → x ≡ option_map length (cond t None (Some w)) → {n : ℕ} → x ≡ Some n → t ≡ false
  told true e f = cc
  told false e f = refl

  untold : (t : Bool) → x ≡ option_map length (cond t None (Some w)) → x ≡ None → t ≡ true
  untold true e f = refl
  untold false e f = cc

  pub had-room : (room : ℕ) → x ≡ option_map length (within room w) → {n : ℕ} → x ≡ Some n → length w ≤ room
  had-room room e f = ltb-false _ _ (told (ltb room (length w)) e f)

  pub had-none : (room : ℕ) → x ≡ option_map length (within room w) → x ≡ None → room < length w
  had-none room e f = ltb-true _ _ (untold (ltb room (length w)) e f)
