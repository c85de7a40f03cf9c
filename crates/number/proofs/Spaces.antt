-- Laws of `trim`: where the text without the spaces at an end begins and ends.
use Prim.Native.Nat.{ℕ, suc, ◌+◌, ◌-◌, ◌≤◌}
use native.Mathlib.Omega.{arith}
use native.Mathlib.Numerals.{one-add}
use mathlib.Core.Path.{◌≡◌, refl, sym, ap, subst, ◌∙◌}
use mathlib.Core.Bool.{Bool, true, false, not, cond}
use mathlib.Core.List.{List, [], ◌∷◌, ◌++◌}
use Rattle.std.specs.Prelude.{Some, None, unwrap_or, position, reverse}
use Rattle.std.specs.List.{position_or_len}
use Rattle.std.proofs.lemmas.List.{length-reverse, reverse-append, reverse-reverse, take-append-le, length-append}
use Rattle.std.proofs.lemmas.List.Sums.{prefix_len-le-length}
use lib.ListN.{length, take, drop}
use lib.Dec.{ltb}
use lib.Seq.{take-length}
use borrow.Author.Tests.{ltb-false}
use Rattle.number.specs.Trim.{is_space, trim_left, keep, trim_right}

-- ---- a loop from the end at n

-- a space at the end goes, anything else stays
end-space : (s : List ℕ) (x : ℕ) → is_space x ≡ true → trim_right (s ++ (x ∷ [])) ≡ trim_right s
unfolding trim_right keep
end-space [] x e = rw e
end-space (y ∷ s) x e = rw (end-space s x e)

end-other : (s : List ℕ) (x : ℕ) → is_space x ≡ false → trim_right (s ++ (x ∷ [])) ≡ s ++ (x ∷ [])
unfolding trim_right keep
end-other [] x e = rw e
end-other (y ∷ []) x e = rw e
end-other (y ∷ z ∷ s) x e = rw (end-other (z ∷ s) x e)

-- how many spaces stand in front
abbrev pub spaces : List ℕ → ℕ
spaces s = position_or_len (λ x. not (is_space x)) s

found-at : (n m : ℕ) → n ≤ m → unwrap_or (cond (ltb n m) (Some n) None) m ≡ n
found-at n m h = go (ltb n m) refl
  where
    go : (t : Bool) → ltb n m ≡ t → unwrap_or (cond t (Some n) None) m ≡ n
    go true e = refl
    go false e = omega (arith, ltb-false n m e)

-- where the code finds the first byte that passes a test, or the end
pub found_first : (p : ℕ → Bool) (s : List ℕ) → (unwrap_or (position p s) (length s) ≡ position_or_len p s) × (position_or_len p s ≤ length s)
found_first p s =
    let h = prefix_len-le-length (λ x. not (p x)) s in
    (found-at (position_or_len p s) (length s) h, h)

drop-spaces : (s : List ℕ) → drop (spaces s) s ≡ trim_left s
unfolding trim_left
drop-spaces [] = refl
drop-spaces (x ∷ s) = go (is_space x) (drop-spaces s)
  where
    go : (t : Bool) → drop (spaces s) s ≡ trim_left s → drop (cond (not (not t)) (1 + spaces s) 0) (x ∷ s) ≡ cond t (trim_left s) (x ∷ s)
    go true i = rw one-add i
    go false i = refl

-- where the code finds the first byte that is no space
pub front-at : (s : List ℕ) (r : ℕ) → r ≡ unwrap_or (position (λ x. not (is_space x)) s) (length s) → (r ≤ length s) × (drop r s ≡ trim_left s)
front-at s r e =
    let f = found_first (λ x. not (is_space x)) s in
    let k : r ≡ spaces s = e ∙ f.0 in
    (omega (arith, k, f.1), ap (λ (n : ℕ). drop n s) k ∙ drop-spaces s)

-- s is read from its end as t is from its front
take-spaces : (t : List ℕ) → take (length t - spaces t) (reverse t) ≡ trim_right (reverse t)
unfolding trim_right
take-spaces [] = refl
take-spaces (x ∷ t) = rw (reverse-append (x ∷ []) t) (go (is_space x) refl (take-spaces t))
  where
    go : (b : Bool) → is_space x ≡ b → take (length t - spaces t) (reverse t) ≡ trim_right (reverse t)
        → take (suc (length t) - cond (not (not b)) (1 + spaces t) 0) (reverse t ++ (x ∷ [])) ≡ trim_right (reverse t ++ (x ∷ []))
    go true e i =
        let k : suc (length t) - (1 + spaces t) ≡ length t - spaces t = omega arith in
        let h : length t - spaces t ≤ length (reverse t) = omega (arith, length-reverse t) in
        rw k (take-append-le (length t - spaces t) (reverse t) (x ∷ []) h ∙ i ∙ sym (end-space (reverse t) x e))
    go false e i =
        let k : suc (length t) - 0 ≡ length (reverse t ++ (x ∷ [])) = simp (length-append, length-reverse) (omega arith) in
        ap (λ (n : ℕ). take n (reverse t ++ (x ∷ []))) k ∙ take-length (reverse t ++ (x ∷ [])) ∙ sym (end-other (reverse t) x e)

-- where the code finds the last byte that is no space
pub back-at : (s : List ℕ) (r : ℕ) → r ≡ length s - unwrap_or (position (λ x. not (is_space x)) (reverse s)) (length s) → (r ≤ length s) × (take r s ≡ trim_right s)
back-at s r e =
    let n : length (reverse s) ≡ length s = length-reverse s in
    let f : unwrap_or (position (λ x. not (is_space x)) (reverse s)) (length (reverse s)) ≡ spaces (reverse s) = (found_first (λ x. not (is_space x)) (reverse s)).0 in
    let g : unwrap_or (position (λ x. not (is_space x)) (reverse s)) (length s) ≡ spaces (reverse s) = subst (λ (m : ℕ). unwrap_or (position (λ x. not (is_space x)) (reverse s)) m ≡ spaces (reverse s)) n f in
    let k : r ≡ length (reverse s) - spaces (reverse s) = e ∙ ap (λ (m : ℕ). length s - m) g ∙ ap (λ (m : ℕ). m - spaces (reverse s)) (sym n) in
    (omega (arith, k, n), ap (λ (m : ℕ). take m s) k ∙ subst (λ (u : List ℕ). take (length (reverse s) - spaces (reverse s)) u ≡ trim_right u) (reverse-reverse s) (take-spaces (reverse s)))
