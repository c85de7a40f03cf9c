-- What becomes of a run of characters.
use Prim.Native.Nat.{ℕ, zero, suc, ◌+◌, ◌-◌}
use mathlib.Core.Path.{◌≡◌, refl, ap, ◌∙◌}
use mathlib.Core.List.{List, [], ◌++◌, append-nil}
use lib.ListN.{length, drop, length-append}
use lib.Seq.{drop-drop}
use Rattle.lists.specs.Write.{part}
use Rattle.utf8.specs.Utf8.{step_of}
use Rattle.utf8.specs.Runs.{Stretch, stop_of, Ran}
use Rattle.utf8.proofs.Stretch.{part-rest, last, part-size}
use Rattle.lossy.specs.Lossy.{mark, lossy, lossy_from}
use Rattle.lossy.proofs.Laws.{lossy-turn, lossy-append}

pub lossy-stretch : {s : List ℕ} {a e : ℕ} → Stretch s a e → lossy (drop a s) ≡ part a e s ++ lossy (drop e s)
lossy-stretch {s} {a} {e} x = ap lossy (part-rest s a e x.order) ∙ lossy-append (part a e s) (drop e s) x.good

broken : (s : List ℕ) (e b : ℕ) → step_of (drop e s) ≡ stop_of b → (b ≡ 0 → ⊥) → lossy (drop e s) ≡ mark ++ lossy (drop (e + b) s)
broken s e zero p h = absurd (h refl)
broken s e (suc n) p h = lossy-turn (drop e s) ∙ rw (p, drop-drop)

-- an ill-formed part is marked
pub marked : {s : List ℕ} {a e b : ℕ} → Ran s a e b → (b ≡ 0 → ⊥) → lossy (drop a s) ≡ part a e s ++ (mark ++ lossy (drop (e + b) s))
marked {s} {a} {e} {b} x h = lossy-stretch x.stretch ∙ rw (broken s e b x.stop h)

pub unmarked : {s : List ℕ} {a e b : ℕ} → Ran s a e b → b ≡ 0 → lossy (drop a s) ≡ part a e s
unmarked {s} {a} {e} {b} x h =
    let empty : lossy [] ≡ [] = unfold lossy lossy_from in refl in
    lossy-stretch x.stretch ∙ rw (last x h, empty, append-nil)

-- ---- sizes

pub size-stretch : {s : List ℕ} {a e : ℕ} → Stretch s a e → length (lossy (drop a s)) ≡ (e - a) + length (lossy (drop e s))
size-stretch {s} {a} {e} x = ap length (lossy-stretch x) ∙ rw (length-append, part-size x)

pub size-unmarked : {s : List ℕ} {a e b : ℕ} → Ran s a e b → b ≡ 0 → length (lossy (drop a s)) ≡ e - a
size-unmarked x h = ap length (unmarked x h) ∙ part-size x.stretch

pub size-marked : {s : List ℕ} {a e b : ℕ} → Ran s a e b → (b ≡ 0 → ⊥) → length (lossy (drop a s)) ≡ (e - a) + (3 + length (lossy (drop (e + b) s)))
size-marked {s} {a} {e} {b} x h = ap length (marked x h) ∙ rw (length-append, length-append, part-size x.stretch)
