-- Laws of written digits: one law for each turn of a loop.
use Prim.Native.Nat.{ℕ, zero, suc, ◌+◌, ◌-◌, ◌/◌, ◌%◌, ◌^◌, ◌≤◌, ◌<◌}
use native.Mathlib.Omega.{arith}
use native.Mathlib.Numerals.{add-one}
use native.Mathlib.Nat.{add-zero, zero-add}
use mathlib.Core.Path.{◌≡◌, refl, sym, ap, ◌∙◌}
use mathlib.Core.List.{List, [], ◌∷◌, ◌++◌, append_assoc, append-nil}
use lib.ListN.{length, set, length-append, replicate}
use lib.IntN.{ℤ, pos, negsuc}
use lib.Signed.{lt_z}
use borrow.Author.Tests.{lt-ltb, le-ltb}
use Rattle.lists.specs.Write.{splice}
use Rattle.lists.proofs.Wrote.{Wrote, start, from_start}
use Rattle.decimal.specs.Writing.{places, decimal, is_negative, text_of}
use Rattle.decimal.specs.declared.Text.{Text}
use Rattle.decimal.proofs.Lists.{put-before}

pub length-places : (k n : ℕ) → length (places k n) ≡ k
unfolding places
length-places zero n = refl
length-places (suc k) n = simp (length-append, length-places k (n / 10)) (omega arith)

-- ---- a loop that writes digits from the last: i are left, of the number n

pub record Digits (out₀ : List ℕ) (at k n₀ i n : ℕ) (out : List ℕ) : Type 0 where
  pub written : List ℕ
  pub size : i + length written ≡ k
  pub digits : places k n₀ ≡ places i n ++ written
  pub is : out ≡ splice out₀ (at + i) written

pub none_yet : (out : List ℕ) (at k n : ℕ) → at + k ≤ length out → Digits out at k n k n out
none_yet out at k n h = record { written = []; size = omega arith; digits = sym (append-nil (places k n)); is = (start out (at + k) h).is }

-- the loop's i is j + 1, and becomes j
pub turn : {out₀ out : List ℕ} {at k n₀ n : ℕ} (i j : ℕ) → Digits out₀ at k n₀ i n out → i ≡ suc j → at + k ≤ length out₀
    → Digits out₀ at k n₀ j (n / 10) (set out (at + j) (48 + n % 10))
unfolding places
turn {out₀} {out} {at} {k} {n₀} {n} i j d e h =
    let w = d.written in
    let x = 48 + n % 10 in
    let f : at + i ≡ at + j + 1 = omega arith in
    let l : at + j < length out₀ = omega (arith, d.size) in
    record {
      written = x ∷ w;
      size = omega (arith, d.size);
      digits = d.digits ∙ rw e (simp append_assoc);
      is = ap (λ (o : List ℕ). set o (at + j) x) (d.is ∙ ap (λ (a : ℕ). splice out₀ a w) f) ∙ put-before out₀ (at + j) x w l;
    }

pub all-written : {out₀ out : List ℕ} {at k n₀ n : ℕ} (i : ℕ) → Digits out₀ at k n₀ i n out → i ≡ 0 → (length (places k n₀) ≡ k) × (out ≡ splice out₀ at (places k n₀))
unfolding places
all-written {out₀} {out} {at} {k} {n₀} {n} i d e =
    let q : places k n₀ ≡ d.written = d.digits ∙ rw e in
    (length-places k n₀, rw q (d.is ∙ rw (e, add-zero)))

-- ---- a loop that counts digits

pub decimal-stop : (k m n : ℕ) → n < 10 ^ k → decimal k m n ≡ places k n
unfolding decimal
decimal-stop k zero n h = refl
decimal-stop k (suc m) n h = rw (lt-ltb n (10 ^ k) h)

pub decimal-next : (k m n : ℕ) → 0 < m → 10 ^ k ≤ n → decimal k m n ≡ decimal (k + 1) (m - 1) n
unfolding decimal
decimal-next k zero n z h = absurd (omega arith)
decimal-next k (suc m) n z h = let e : suc m - 1 ≡ m = omega arith in rw (le-ltb n (10 ^ k) h, add-one, e)

pub decimal-end : (k m n : ℕ) → m ≡ 0 → decimal k m n ≡ places k n
unfolding decimal
decimal-end k m n h = rw h

pub negative : (z : ℤ) → lt_z z (pos 0) ≡ is_negative z
negative (pos n) = le-ltb n 0 (omega arith)
negative (negsuc n) = refl

-- ---- a text handed out

pub text-is : {w xs : List ℕ} {k : ℕ} → Wrote (replicate 32 0) 0 w k xs → (text : List ℕ) → w ≡ text → ◌≡◌ {A = Text} (record { bytes = xs; len = k }) (text_of text)
text-is {w} {xs} {k} x text e =
    let n : k ≡ length w = x.ends ∙ zero-add (length w) in
    rw (from_start x, n, e)
