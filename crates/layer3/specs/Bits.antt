-- Fields of eight bits that begin at any bit, the most significant bit first: bit o of a file is bit 7 - o % 8 of its byte o / 8.
use Rattle.std.specs.Prelude.{ℕ, ◌+◌, ◌-◌, ◌*◌, ◌/◌, ◌%◌, ◌^◌, List, get_or, set}

-- two bytes as one number: a field that begins in the first of them ends by the second
abbrev pub word_at : List ℕ → ℕ → ℕ
word_at s q = get_or s q 0 * 256 + get_or s (q + 1) 0

-- what the field's last bit counts for in these two bytes
abbrev pub weight : ℕ → ℕ
weight o = 2 ^ (8 - o % 8)

-- the eight bits of w whose last one counts for k
abbrev pub bits_of : ℕ → ℕ → ℕ
bits_of k w = w / k % 256

-- w with v for these bits: what stands above them and what stands below them stays
unfoldable pub with_bits : ℕ → ℕ → ℕ → ℕ
with_bits k w v = w / (k * 256) * (k * 256) + v * k + w % k

-- the field that begins at bit o
unfoldable pub read_bits : List ℕ → ℕ → ℕ
read_bits s o = bits_of (weight o) (word_at s (o / 8))

-- two bytes stored
abbrev pub put_word : List ℕ → ℕ → ℕ → List ℕ
put_word s q w = set (set s q (w / 256)) (q + 1) (w % 256)

-- v stored in the field that begins at bit o
unfoldable pub write_bits : List ℕ → ℕ → ℕ → List ℕ
write_bits s o v = put_word s (o / 8) (with_bits (weight o) (word_at s (o / 8)) v)
