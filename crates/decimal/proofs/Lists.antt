-- General laws of written bytes.
use Prim.Native.Nat.{ℕ, suc, ◌+◌, ◌<◌}
use native.Mathlib.Omega.{arith}
use native.Mathlib.Numerals.{add-one}
use mathlib.Core.Path.{◌≡◌, ◌∙◌}
use mathlib.Core.List.{List, [], ◌∷◌, ◌++◌, append_assoc}
use lib.ListN.{length, take, drop, get_or, set}
use lib.Seq.{set_split, set_at, take-suc, length-take-le}
use Rattle.lists.specs.Write.{splice}

-- one byte is written
pub put_one : (out : List ℕ) (at x : ℕ) → at < length out → set out at x ≡ splice out at (x ∷ [])
put_one out at x h = set_split out at x h ∙ rw (add-one) (simp append_assoc)

-- a byte is written before what was written
pub put-before : (out : List ℕ) (at x : ℕ) (w : List ℕ) → at < length out → set (splice out (at + 1) w) at x ≡ splice out at (x ∷ w)
put-before out at x w h =
    let y = get_or out at 0 in
    let r = drop (at + 1 + length w) out in
    let e : splice out (at + 1) w ≡ take at out ++ (y ∷ (w ++ r)) = rw (add-one, take-suc out at 0 h) (simp append_assoc) in
    let d : at + suc (length w) ≡ at + 1 + length w = omega arith in
    rw e (set_at (take at out) y (w ++ r) x at (length-take-le at out (omega arith)) ∙ rw d (simp append_assoc))
