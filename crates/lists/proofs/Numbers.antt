-- Laws of `u32le` and `read_u32`: a number that was written is read back, and four bytes are those of the number that they are.
use Prim.Native.Nat.{ℕ, ◌+◌, ◌*◌, ◌/◌, ◌%◌, ◌≤◌, ◌<◌}
use native.Mathlib.Omega.{arith}
use native.Mathlib.Nat.{add_assoc}
use mathlib.Core.Path.{◌≡◌, sym, ap, ◌∙◌}
use mathlib.Core.List.{List, [], ◌∷◌, ◌++◌}
use lib.ListN.{length, drop, get_or}
use lib.Seq.{drop-cons, get_or-drop}
use Rattle.lists.specs.Bytes.{Small}
use Rattle.lists.specs.Le.{u32le, read_u32}

pub read-drop : (s : List ℕ) (at i : ℕ) → read_u32 (drop at s) i ≡ read_u32 s (at + i)
read-drop s at i = simp (get_or-drop, add_assoc)

pub read_here : (n : ℕ) (s : List ℕ) → n < 4294967296 → read_u32 (u32le n ++ s) 0 ≡ n
read_here n s h = omega arith

four : (a b c d : ℕ) → a < 256 → b < 256 → c < 256 → d < 256 → u32le (a + b * 256 + c * 65536 + d * 16777216) ≡ a ∷ b ∷ c ∷ d ∷ []
four a b c d p q r t =
    let x = a + b * 256 + c * 65536 + d * 16777216 in
    let e : x % 256 ≡ a = omega arith in
    let f : x / 256 ≡ b + c * 256 + d * 65536 = omega arith in
    let g : (b + c * 256 + d * 65536) % 256 ≡ b = omega arith in
    let h : (b + c * 256 + d * 65536) / 256 ≡ c + d * 256 = omega arith in
    let i : (c + d * 256) % 256 ≡ c = omega arith in
    let j : (c + d * 256) / 256 ≡ d = omega arith in
    let k : d % 256 ≡ d = omega arith in
    rw (e, f, g, h, i, j, k)

pub number-here : (s : List ℕ) → Small s → 4 ≤ length s → s ≡ u32le (read_u32 s 0) ++ drop 4 s
number-here s b l =
    drop-cons s 0 0 (omega arith) ∙ ap (λ r. get_or s 0 0 ∷ r) (drop-cons s 1 0 (omega arith) ∙ ap (λ r. get_or s 1 0 ∷ r) (drop-cons s 2 0 (omega arith) ∙ ap (λ r. get_or s 2 0 ∷ r) (drop-cons s 3 0 (omega arith))))
    ∙ ap (λ (w : List ℕ). w ++ drop 4 s) (sym (four (get_or s 0 0) (get_or s 1 0) (get_or s 2 0) (get_or s 3 0) (b 0) (b 1) (b 2) (b 3)))
