-- Laws of fields of eight bits: what was written is read back, other bytes stay, and fields that share no byte do not see each other.
use Prim.Native.Nat.{ℕ, zero, suc, ◌+◌, ◌-◌, ◌*◌, ◌/◌, ◌%◌, ◌^◌, ◌≤◌, ◌<◌}
use native.Mathlib.Omega.{arith}
use mathlib.Core.Path.{◌≡◌, ap, ◌∙◌}
use mathlib.Core.Logic.{◌⊎◌, inl, inr}
use mathlib.Core.List.{List, [], ◌∷◌}
use lib.ListN.{length, get_or, set, length-set}
use lib.Seq.{get_or-set_same, get_or-set_other, set-get_or, set-set, set_comm}
use Rattle.lists.specs.Bytes.{Small}
use Rattle.layer3.specs.Bits.{word_at, weight, bits_of, with_bits, read_bits, put_word, write_bits}

-- ---- weights

-- the eight weights
pub data Weight : ℕ → Type 0 where
  by256 : Weight 256
  by128 : Weight 128
  by64 : Weight 64
  by32 : Weight 32
  by16 : Weight 16
  by8 : Weight 8
  by4 : Weight 4
  by2 : Weight 2

pub weight_is : (o : ℕ) → Weight (weight o)
weight_is o = go (o % 8) (omega arith)
  where
    go : (r : ℕ) → r < 8 → Weight (2 ^ (8 - r))
    go zero h = by256
    go (suc zero) h = by128
    go (suc (suc zero)) h = by64
    go (suc (suc (suc zero))) h = by32
    go (suc (suc (suc (suc zero)))) h = by16
    go (suc (suc (suc (suc (suc zero))))) h = by8
    go (suc (suc (suc (suc (suc (suc zero)))))) h = by4
    go (suc (suc (suc (suc (suc (suc (suc zero))))))) h = by2
    go (suc (suc (suc (suc (suc (suc (suc (suc r)))))))) h = absurd (omega arith)

-- each is a positive number of nine bits
pub weight-some : {k : ℕ} → Weight k → (1 * k % 4294967296 ≡ k) × (0 < 1 * k % 4294967296) × (1 * k % 4294967296 ≤ 256)
weight-some by256 = omega arith
weight-some by128 = omega arith
weight-some by64 = omega arith
weight-some by32 = omega arith
weight-some by16 = omega arith
weight-some by8 = omega arith
weight-some by4 = omega arith
weight-some by2 = omega arith

-- what was put there is there
bits_back : {k : ℕ} → Weight k → (w v : ℕ) → v < 256 → bits_of k (with_bits k w v) ≡ v
unfolding with_bits
bits_back by256 w v h = omega arith
bits_back by128 w v h = omega arith
bits_back by64 w v h = omega arith
bits_back by32 w v h = omega arith
bits_back by16 w v h = omega arith
bits_back by8 w v h = omega arith
bits_back by4 w v h = omega arith
bits_back by2 w v h = omega arith

-- a second time is as if there had been no first
bits-twice : {k : ℕ} → Weight k → (w v u : ℕ) → v < 256 → with_bits k (with_bits k w v) u ≡ with_bits k w u
unfolding with_bits
bits-twice by256 w v u h = omega arith
bits-twice by128 w v u h = omega arith
bits-twice by64 w v u h = omega arith
bits-twice by32 w v u h = omega arith
bits-twice by16 w v u h = omega arith
bits-twice by8 w v u h = omega arith
bits-twice by4 w v u h = omega arith
bits-twice by2 w v u h = omega arith

-- what is there put there changes nothing
bits-same : {k : ℕ} → Weight k → (w : ℕ) → with_bits k w (bits_of k w) ≡ w
unfolding with_bits
bits-same by256 w = omega arith
bits-same by128 w = omega arith
bits-same by64 w = omega arith
bits-same by32 w = omega arith
bits-same by16 w = omega arith
bits-same by8 w = omega arith
bits-same by4 w = omega arith
bits-same by2 w = omega arith

-- what stands above them stays, and what stands below them
bits-beside : {k : ℕ} → Weight k → (w v : ℕ) → v < 256 → (with_bits k w v / (k * 256) ≡ w / (k * 256)) × (with_bits k w v % k ≡ w % k)
unfolding with_bits
bits-beside by256 w v h = (omega arith, omega arith)
bits-beside by128 w v h = (omega arith, omega arith)
bits-beside by64 w v h = (omega arith, omega arith)
bits-beside by32 w v h = (omega arith, omega arith)
bits-beside by16 w v h = (omega arith, omega arith)
bits-beside by8 w v h = (omega arith, omega arith)
bits-beside by4 w v h = (omega arith, omega arith)
bits-beside by2 w v h = (omega arith, omega arith)

-- two bytes stay two bytes
pub bits_small : {k : ℕ} → Weight k → (w v : ℕ) → w < 65536 → v < 256 → with_bits k w v < 65536
unfolding with_bits
bits_small by256 w v h l = omega arith
bits_small by128 w v h l = omega arith
bits_small by64 w v h l = omega arith
bits_small by32 w v h l = omega arith
bits_small by16 w v h l = omega arith
bits_small by8 w v h l = omega arith
bits_small by4 w v h l = omega arith
bits_small by2 w v h l = omega arith

-- ---- two bytes of a list

length-word : (s : List ℕ) (q w : ℕ) → length (put_word s q w) ≡ length s
length-word s q w = simp length-set

-- other bytes stay
word-other : (s : List ℕ) (q w i : ℕ) → (i < q) ⊎ (q + 2 ≤ i) → get_or (put_word s q w) i 0 ≡ get_or s i 0
word-other s q w i (inl h) = get_or-set_other (set s q (w / 256)) (q + 1) i (w % 256) 0 (λ e. omega (arith, e)) ∙ get_or-set_other s q i (w / 256) 0 (λ e. omega (arith, e))
word-other s q w i (inr h) = get_or-set_other (set s q (w / 256)) (q + 1) i (w % 256) 0 (λ e. omega (arith, e)) ∙ get_or-set_other s q i (w / 256) 0 (λ e. omega (arith, e))

module _ (s : List ℕ) (q w : ℕ) (fits : q + 1 < length s) where
  word_first : get_or (put_word s q w) q 0 ≡ w / 256
  word_first = get_or-set_other (set s q (w / 256)) (q + 1) q (w % 256) 0 (λ e. omega (arith, e)) ∙ get_or-set_same s q (w / 256) 0 (omega arith)

  word-second : get_or (put_word s q w) (q + 1) 0 ≡ w % 256
  word-second = get_or-set_same (set s q (w / 256)) (q + 1) (w % 256) 0 (simp length-set (omega arith))

  word_back : word_at (put_word s q w) q ≡ w
  word_back = omega (arith, word_first, word-second)

word-twice : (s : List ℕ) (q w u : ℕ) → put_word (put_word s q w) q u ≡ put_word s q u
word-twice s q w u =
    ap (λ (l : List ℕ). set l (q + 1) (u % 256)) (set_comm (set s q (w / 256)) (q + 1) q (w % 256) (u / 256) (λ e. omega (arith, e)) ∙ ap (λ (l : List ℕ). set l (q + 1) (w % 256)) (set-set s q (w / 256) (u / 256)))
    ∙ set-set (set s q (u / 256)) (q + 1) (w % 256) (u % 256)

word_same : (s : List ℕ) (q : ℕ) → Small s → put_word s q (word_at s q) ≡ s
word_same s q b =
    let a : word_at s q / 256 ≡ get_or s q 0 = omega (arith, b (q + 1)) in
    let c : word_at s q % 256 ≡ get_or s (q + 1) 0 = omega (arith, b (q + 1)) in
    ap (λ (x : ℕ). set (set s q x) (q + 1) (word_at s q % 256)) a ∙ ap (λ (l : List ℕ). set l (q + 1) (word_at s q % 256)) (set-get_or s q 0) ∙ ap (set s (q + 1)) c ∙ set-get_or s (q + 1) 0

-- two words that share no byte
word-apart : (s : List ℕ) (p q w u : ℕ) → p + 2 ≤ q → put_word (put_word s p w) q u ≡ put_word (put_word s q u) p w
word-apart s p q w u h =
    let a = w / 256 in
    let b = w % 256 in
    let c = u / 256 in
    let d = u % 256 in
    let e : set (set (set s p a) (p + 1) b) q c ≡ set (set (set s q c) p a) (p + 1) b
    = set_comm (set s p a) (p + 1) q b c (λ e. omega (arith, e)) ∙ ap (λ (l : List ℕ). set l (p + 1) b) (set_comm s p q a c (λ e. omega (arith, e))) in
    ap (λ (l : List ℕ). set l (q + 1) d) e
    ∙ set_comm (set (set s q c) p a) (p + 1) (q + 1) b d (λ e. omega (arith, e)) ∙ ap (λ (l : List ℕ). set l (p + 1) b) (set_comm (set s q c) p (q + 1) a d (λ e. omega (arith, e)))

word_small : (s : List ℕ) (q w : ℕ) → Small s → w < 65536 → Small (put_word s q w)
word_small s q w b h = set-small (set s q (w / 256)) (q + 1) (w % 256) (set-small s q (w / 256) b (omega arith)) (omega arith)
  where
    set-small : (s : List ℕ) (q x : ℕ) → Small s → x < 256 → Small (set s q x)
    set-small [] q x b h i = b i
    set-small (y ∷ s) zero x b h zero = h
    set-small (y ∷ s) zero x b h (suc i) = b (suc i)
    set-small (y ∷ s) (suc q) x b h zero = b zero
    set-small (y ∷ s) (suc q) x b h (suc i) = set-small s q x (λ i. b (suc i)) h i

-- ---- a field

pub length-write : (s : List ℕ) (o v : ℕ) → length (write_bits s o v) ≡ length s
unfolding write_bits
length-write s o v = length-word s (o / 8) _

-- other bytes stay
pub write-other : (s : List ℕ) (o v i : ℕ) → (i < o / 8) ⊎ (o / 8 + 2 ≤ i) → get_or (write_bits s o v) i 0 ≡ get_or s i 0
unfolding write_bits
write-other s o v i h = word-other s (o / 8) _ i h

-- what was written is read back
pub read-written : (s : List ℕ) (o v : ℕ) → o / 8 + 1 < length s → v < 256 → read_bits (write_bits s o v) o ≡ v
unfolding read_bits write_bits
read-written s o v h l = ap (bits_of (weight o)) (word_back s (o / 8) (with_bits (weight o) (word_at s (o / 8)) v) h) ∙ bits_back (weight_is o) (word_at s (o / 8)) v l

-- of the two bytes where a field begins, the bits before it and behind it stay
pub write-beside : (s : List ℕ) (o v : ℕ) → o / 8 + 1 < length s → v < 256
    → (word_at (write_bits s o v) (o / 8) / (weight o * 256) ≡ word_at s (o / 8) / (weight o * 256)) × (word_at (write_bits s o v) (o / 8) % weight o ≡ word_at s (o / 8) % weight o)
unfolding write_bits
write-beside s o v h l =
    let b = word_back s (o / 8) (with_bits (weight o) (word_at s (o / 8)) v) h in
    let (above, below) = bits-beside (weight_is o) (word_at s (o / 8)) v l in
    (ap (λ (w : ℕ). w / (weight o * 256)) b ∙ above, ap (λ (w : ℕ). w % weight o) b ∙ below)

-- a field that shares no byte reads as before
pub read-apart : (s : List ℕ) (o v p : ℕ) → (p / 8 + 2 ≤ o / 8) ⊎ (o / 8 + 2 ≤ p / 8) → read_bits (write_bits s o v) p ≡ read_bits s p
unfolding read_bits
read-apart s o v p (inl h) = rw (write-other s o v (p / 8) (inl (omega arith)), write-other s o v (p / 8 + 1) (inl (omega arith)))
read-apart s o v p (inr h) = rw (write-other s o v (p / 8) (inr (omega arith)), write-other s o v (p / 8 + 1) (inr (omega arith)))

-- the second of two writes stands
pub write-twice : (s : List ℕ) (o v u : ℕ) → o / 8 + 1 < length s → v < 256 → write_bits (write_bits s o v) o u ≡ write_bits s o u
unfolding write_bits
write-twice s o v u h l =
    let k = weight o in
    let q = o / 8 in
    let w = with_bits k (word_at s q) v in
    ap (λ (x : ℕ). put_word (put_word s q w) q (with_bits k x u)) (word_back s q w h)
    ∙ ap (put_word (put_word s q w) q) (bits-twice (weight_is o) (word_at s q) v u l) ∙ word-twice s q w (with_bits k (word_at s q) u)

-- writing what stands there changes nothing
pub write_same : (s : List ℕ) (o : ℕ) → Small s → write_bits s o (read_bits s o) ≡ s
unfolding read_bits write_bits
write_same s o b = ap (put_word s (o / 8)) (bits-same (weight_is o) (word_at s (o / 8))) ∙ word_same s (o / 8) b

-- of two fields that share no byte, either may be written first
pub write-apart : (s : List ℕ) (o p v u : ℕ) → o / 8 + 2 ≤ p / 8 → write_bits (write_bits s o v) p u ≡ write_bits (write_bits s p u) o v
unfolding write_bits
write-apart s o p v u h =
    let a = word-other s (o / 8) (with_bits (weight o) (word_at s (o / 8)) v) in
    let b = word-other s (p / 8) (with_bits (weight p) (word_at s (p / 8)) u) in
    rw (a (p / 8) (inr (omega arith)), a (p / 8 + 1) (inr (omega arith)), b (o / 8) (inl (omega arith)), b (o / 8 + 1) (inl (omega arith)))
    (word-apart s (o / 8) (p / 8) _ _ h)

-- bytes stay bytes
pub small-write : (s : List ℕ) (o v : ℕ) → Small s → v < 256 → Small (write_bits s o v)
unfolding write_bits
small-write s o v b h = word_small s (o / 8) _ b (bits_small (weight_is o) (word_at s (o / 8)) v (omega (arith, b (o / 8), b (o / 8 + 1))) h)

pub small-read : (s : List ℕ) (o : ℕ) → read_bits s o < 256
unfolding read_bits
small-read s o = go (weight_is o) (word_at s (o / 8))
  where
    go : {k : ℕ} → Weight k → (w : ℕ) → w / k % 256 < 256
    go by256 w = omega arith
    go by128 w = omega arith
    go by64 w = omega arith
    go by32 w = omega arith
    go by16 w = omega arith
    go by8 w = omega arith
    go by4 w = omega arith
    go by2 w = omega arith
