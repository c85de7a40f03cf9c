-- Laws of the gain fields of one frame, by the places that the code has: granule by granule, and each inside the frame.
use Prim.Native.Nat.{ℕ, zero, suc, ◌+◌, ◌-◌, ◌*◌, ◌/◌, ◌≤◌, ◌<◌}
use native.Mathlib.Omega.{arith}
use mathlib.Core.Path.{◌≡◌, refl}
use mathlib.Core.Bool.{Bool, true, false, cond}
use mathlib.Core.List.{List, [], ◌∷◌}
use Rattle.layer3.specs.declared.Frame.{Frame}
use Rattle.layer3.specs.Sizes.{LongFrame}
use Rattle.layer3.specs.Fields.{Field, left, right, place_of, side_start, before_granules, channel_bits, before_gain, gain_at, fields_from}
use Rattle.layer3.proofs.Fields.{Spread, more}
use Rattle.layer3.proofs.Lengths.{fields-spread}

-- the fields of so many granules, of one channel or of two
unfoldable pub granules : ℕ → Bool → ℕ → ℕ → List Field
granules zero mono bit next = []
granules (suc n) mono bit next = left bit ∷ cond mono (granules n mono (bit + next) next) (right (bit + next) ∷ granules n mono (bit + next + next) next)

pub fields-are : (at : ℕ) (h : Frame) (bit next : ℕ) → bit ≡ 8 * at + (side_start h + before_granules h + before_gain) → next ≡ channel_bits h
    → (k : ℕ) → k ≡ cond h.mpeg1 2 1 → fields_from (8 * at) h ≡ granules k h.mono bit next
unfolding fields_from granules
fields-are at h bit next first-is next-is k count-is =
    let p0 : 8 * at + gain_at h 0 ≡ bit = omega arith in
    let p1 : 8 * at + gain_at h 1 ≡ bit + next = omega arith in
    let p2 : 8 * at + gain_at h 2 ≡ bit + next + next = omega arith in
    let p3 : 8 * at + gain_at h 3 ≡ bit + next + next + next = omega arith in
    rw (p0, p1, p2, p3, count-is) (go h.mono h.mpeg1)
  where
    go : (m e : Bool) → cond m (left bit ∷ cond e (left (bit + next) ∷ []) []) (left bit ∷ right (bit + next) ∷ cond e (left (bit + next + next) ∷ right (bit + next + next + next) ∷ []) [])
        ≡ granules (cond e 2 1) m bit next
    go true true = refl
    go true false = refl
    go false true = refl
    go false false = refl

-- each field stands in two of the first n bytes
abbrev pub Within : ℕ → List Field → Type 0
Within n [] = Unit {0}
Within n (f ∷ fs) = (place_of f / 8 + 1 < n) × Within n fs

spread-within : {k e : ℕ} (n : ℕ) (fs : List Field) → e ≤ n → Spread k e fs → Within n fs
spread-within n [] h p = tt
spread-within {k = k} n (f ∷ fs) h (more a b c p) = (omega arith, spread-within {k = place_of f / 8 + 2} n fs h p)

-- the fields of the granules that are left stand in the first n bytes
pub record Inside (n k : ℕ) (mono : Bool) (bit next : ℕ) : Type 0 where
  pub fields : Within n (granules k mono bit next)

-- all granules of a frame
pub frame-inside : (at : ℕ) (h : Frame) (n : ℕ) → LongFrame h → at + h.size ≤ n → {k bit next : ℕ} → bit ≡ 8 * at + (side_start h + before_granules h + before_gain) → next ≡ channel_bits h
    → k ≡ cond h.mpeg1 2 1 → Inside n k h.mono bit next
frame-inside at h n long ends f g e =
    record { fields = rw (← fields-are at h _ _ f g _ e) (spread-within n (fields_from (8 * at) h) ends (fields-spread at h (record { least = long }))) }

pub few-bits : (h : Frame) → channel_bits h ≤ 63
few-bits h = go h.mpeg1
  where
    go : (t : Bool) → cond t 59 63 ≤ 63
    go true = omega arith
    go false = omega arith

pub two-granules : (h : Frame) → cond h.mpeg1 2 1 ≤ 2
two-granules h = go h.mpeg1
  where
    go : (t : Bool) → cond t 2 1 ≤ 2
    go true = omega arith
    go false = omega arith

-- a loop over n granules, at i
pub one-more : (n i : ℕ) → i < n → n - i ≡ suc (n - (i + 1))
one-more n i h = omega arith

-- none is left
pub no-granules : (k : ℕ) (mono : Bool) (bit next : ℕ) → k ≡ 0 → granules k mono bit next ≡ []
unfolding granules
no-granules k mono bit next e = rw e

-- one more is
module _ {n k : ℕ} {mono : Bool} {bit next : ℕ} (w : Inside n k mono bit next) (j : ℕ) (more : k ≡ suc j) where
  pub first-in : bit / 8 + 1 < n
  unfolding granules
  first-in = (rw more at w.fields).0

  module _ (e : mono ≡ true) where
    pub rest-mono : Inside n j mono (bit + next) next
    unfolding granules
    rest-mono = record { fields = rw e (rw (more, e) at w.fields).1 }

  module _ (e : mono ≡ false) where
    pub second-in : (bit + next) / 8 + 1 < n
    unfolding granules
    second-in = (rw (more, e) at w.fields).1.0

    pub rest-stereo : Inside n j mono (bit + next + next) next
    unfolding granules
    rest-stereo = record { fields = rw e (rw (more, e) at w.fields).1.1 }
