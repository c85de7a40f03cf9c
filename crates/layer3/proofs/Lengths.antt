-- Laws of headers: how long a frame is at least, and that its gain fields stand behind its header and before its end.
use Prim.Native.Nat.{ℕ, ◌+◌, ◌-◌, ◌*◌, ◌/◌, ◌%◌, ◌≤◌, ◌<◌}
use native.Mathlib.Omega.{arith}
use mathlib.Core.Path.{◌≡◌, refl}
use mathlib.Core.Bool.{Bool, true, false, ◌&&◌, cond, and-eq-true_iff}
use lib.Dec.{leb}
use borrow.Author.Tests.{leb-true, eqb-false, not-true}
use Rattle.keys.proofs.Lists.{all_below, below}
use Rattle.layer3.specs.declared.Frame.{Frame}
use Rattle.std.specs.Prelude.{None, Some}
use Rattle.layer3.specs.Header.{is_mpeg1, has_sync, is_layer3, has_emphasis, has_rate, has_sampling, unpadded_size, is_valid, frame_of, header_of}
use Rattle.layer3.specs.Fields.{fields_from}
use Rattle.layer3.proofs.Fields.{Spread, Spaced, spaced}

-- ---- how long a frame is

-- the least length, without padding
abbrev pub least_size : Bool → ℕ
least_size mpeg1 = cond mpeg1 96 24

-- the 14 bit rates and 3 sampling rates
long-test : (mpeg1 : Bool) → all_below (λ k. leb (least_size mpeg1) (unpadded_size mpeg1 (k / 3 + 1) (k % 3))) 42 ≡ true
unfolding unpadded_size
long-test true = refl
long-test false = refl

pub plain-long : (mpeg1 : Bool) (rate sampling : ℕ) → 1 ≤ rate → rate ≤ 14 → sampling < 3 → least_size mpeg1 ≤ unpadded_size mpeg1 rate sampling
plain-long mpeg1 rate sampling h l m =
    let k = (rate - 1) * 3 + sampling in
    let e : k / 3 + 1 ≡ rate = omega arith in
    let f : k % 3 ≡ sampling = omega arith in
    let t = below (λ k. leb (least_size mpeg1) (unpadded_size mpeg1 (k / 3 + 1) (k % 3))) 42 (long-test mpeg1) k (omega arith) in
    leb-true _ _ (rw (e, f) at t)

-- by the tests of a header
pub plain-rates : (mpeg1 : Bool) (c : ℕ) → has_rate c ≡ true → has_sampling c ≡ true → least_size mpeg1 ≤ unpadded_size mpeg1 (c / 16) (c / 4 % 4)
plain-rates mpeg1 c r s =
    let (l, m) = (and-eq-true_iff (leb 1 (c / 16)) (leb (c / 16) 14)).0 r in
    let n : (c / 4 % 4 ≡ 3 → ⊥) = eqb-false _ 3 (not-true _ s) in
    plain-long mpeg1 (c / 16) (c / 4 % 4) (leb-true 1 _ l) (leb-true _ 14 m) (omega arith)

-- what a valid header says
pub record Long (h : Frame) : Type 0 where
  pub least : least_size h.mpeg1 ≤ h.size

valid-long : (a b c d : ℕ) → is_valid a b c d ≡ true → Long (frame_of b c d)
unfolding is_valid
valid-long a b c d e =
    let (_, e1) = (and-eq-true_iff (has_sync a b) (is_layer3 b && (has_rate c && (has_sampling c && has_emphasis d)))).0 e in
    let (_, e2) = (and-eq-true_iff (is_layer3 b) (has_rate c && (has_sampling c && has_emphasis d))).0 e1 in
    let (r, e3) = (and-eq-true_iff (has_rate c) (has_sampling c && has_emphasis d)).0 e2 in
    let (s, _) = (and-eq-true_iff (has_sampling c) (has_emphasis d)).0 e3 in
    record { least = omega (arith, plain-rates (is_mpeg1 b) c r s) }

pub header-long : (a b c d : ℕ) (h : Frame) → header_of a b c d ≡ Some h → Long h
unfolding header_of
header-long a b c d h e = go (is_valid a b c d) refl e
  where
    go : (t : Bool) → is_valid a b c d ≡ t → cond t (Some (frame_of b c d)) None ≡ Some h → Long h
    go true q e = let g : frame_of b c d ≡ h = cc in rw (← g) (valid-long a b c d q)
    go false q e = absurd (let z : ◌≡◌ {A = ℕ} 0 1 = cc in omega arith)

-- ---- where its gain fields stand

pub fields-spread : (at : ℕ) (h : Frame) → Long h → Spread (at + 4) (at + h.size) (fields_from (8 * at) h)
unfolding fields_from
fields-spread at h l = spaced (at + 4) (at + h.size) (fields_from (8 * at) h) (go h.mpeg1 h.mono h.checksum l.least)
  where
    n : ℕ
    n = h.size

    go : (f m c : Bool) → least_size f ≤ n → Spaced (at + 4) (at + n) (fields_from (8 * at) (record { size = n; mpeg1 = f; mono = m; checksum = c }))
    go true true true q = ((omega arith, omega arith, omega arith), ((omega arith, omega arith, omega arith), tt))
    go true true false q = ((omega arith, omega arith, omega arith), ((omega arith, omega arith, omega arith), tt))
    go true false true q = ((omega arith, omega arith, omega arith), ((omega arith, omega arith, omega arith), ((omega arith, omega arith, omega arith), ((omega arith, omega arith, omega arith), tt))))
    go true false false q = ((omega arith, omega arith, omega arith), ((omega arith, omega arith, omega arith), ((omega arith, omega arith, omega arith), ((omega arith, omega arith, omega arith), tt))))
    go false true true q = ((omega arith, omega arith, omega arith), tt)
    go false true false q = ((omega arith, omega arith, omega arith), tt)
    go false false true q = ((omega arith, omega arith, omega arith), ((omega arith, omega arith, omega arith), tt))
    go false false false q = ((omega arith, omega arith, omega arith), ((omega arith, omega arith, omega arith), tt))
