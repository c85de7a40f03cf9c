-- The table of frame lengths is what the definition says: one test over all its places.
use Prim.Native.Nat.{ℕ, ◌+◌, ◌/◌, ◌%◌, ◌≤◌, ◌<◌}
use native.Mathlib.Omega.{arith}
use mathlib.Core.Path.{◌≡◌, refl}
use mathlib.Core.Bool.{Bool, true, false, not, ◌&&◌, cond}
use mathlib.Core.List.{List, [], ◌∷◌}
use lib.ListN.{get_or}
use lib.Dec.{eqb, leb}
use borrow.Author.Tests.{eqb-true, leb-true}
use Rattle.lists.specs.Bytes.{among}
use Rattle.keys.proofs.Lists.{all_below, below}
use Rattle.layer3.specs.Header.{has_rate, has_sampling, unpadded_size}
use Rattle.layer3.specs.Sizes.{SizeTable}

-- the table, as the code has it
abbrev pub sizes : List ℕ
sizes =
    0 ∷ 0 ∷ 0 ∷ 0 ∷ 26 ∷ 24 ∷ 36 ∷ 0 ∷ 52 ∷ 48 ∷ 72 ∷ 0 ∷ 78 ∷ 72 ∷ 108 ∷ 0 ∷ 104 ∷ 96 ∷ 144 ∷ 0 ∷ 130 ∷ 120 ∷ 180 ∷ 0 ∷ 156 ∷ 144 ∷ 216 ∷ 0 ∷ 182 ∷ 168 ∷ 252 ∷ 0 ∷
    208 ∷ 192 ∷ 288 ∷ 0 ∷ 261 ∷ 240 ∷ 360 ∷ 0 ∷ 313 ∷ 288 ∷ 432 ∷ 0 ∷ 365 ∷ 336 ∷ 504 ∷ 0 ∷ 417 ∷ 384 ∷ 576 ∷ 0 ∷ 470 ∷ 432 ∷ 648 ∷ 0 ∷ 522 ∷ 480 ∷ 720 ∷ 0 ∷ 0 ∷ 0 ∷ 0 ∷ 0 ∷
    0 ∷ 0 ∷ 0 ∷ 0 ∷ 104 ∷ 96 ∷ 144 ∷ 0 ∷ 130 ∷ 120 ∷ 180 ∷ 0 ∷ 156 ∷ 144 ∷ 216 ∷ 0 ∷ 182 ∷ 168 ∷ 252 ∷ 0 ∷ 208 ∷ 192 ∷ 288 ∷ 0 ∷ 261 ∷ 240 ∷ 360 ∷ 0 ∷ 313 ∷ 288 ∷ 432 ∷ 0 ∷
    365 ∷ 336 ∷ 504 ∷ 0 ∷ 417 ∷ 384 ∷ 576 ∷ 0 ∷ 522 ∷ 480 ∷ 720 ∷ 0 ∷ 626 ∷ 576 ∷ 864 ∷ 0 ∷ 731 ∷ 672 ∷ 1008 ∷ 0 ∷ 835 ∷ 768 ∷ 1152 ∷ 0 ∷ 1044 ∷ 960 ∷ 1440 ∷ 0 ∷ 0 ∷ 0 ∷ 0 ∷ 0 ∷ []

-- what the definition says of a bit rate index k / 4 and a sampling index k % 4
abbrev said : Bool → ℕ → ℕ
said mpeg1 k = cond (among 1 14 (k / 4) && not (eqb (k % 4) 3)) (unpadded_size mpeg1 (k / 4) (k % 4)) 0

first-test : all_below (λ k. eqb (get_or sizes (64 + k) 0) (said true k)) 64 ≡ true
unfolding unpadded_size
first-test = refl

second-test : all_below (λ k. eqb (get_or sizes k 0) (said false k)) 64 ≡ true
unfolding unpadded_size
second-test = refl

-- by the third byte of a header
first-size : (c : ℕ) → c < 256 → get_or sizes (64 + c / 4) 0 ≡ cond (has_rate c && has_sampling c) (unpadded_size true (c / 16) (c / 4 % 4)) 0
first-size c h =
    let e : c / 4 / 4 ≡ c / 16 = omega arith in
    let t : get_or sizes (64 + c / 4) 0 ≡ said true (c / 4) = eqb-true (get_or sizes (64 + c / 4) 0) (said true (c / 4)) (below (λ k. eqb (get_or sizes (64 + k) 0) (said true k)) 64 first-test (c / 4) (omega arith)) in
    rw e at t

second-size : (c : ℕ) → c < 256 → get_or sizes (c / 4) 0 ≡ cond (has_rate c && has_sampling c) (unpadded_size false (c / 16) (c / 4 % 4)) 0
second-size c h =
    let e : c / 4 / 4 ≡ c / 16 = omega arith in
    let t : get_or sizes (c / 4) 0 ≡ said false (c / 4) = eqb-true (get_or sizes (c / 4) 0) (said false (c / 4)) (below (λ k. eqb (get_or sizes k 0) (said false k)) 64 second-test (c / 4) (omega arith)) in
    rw e at t

-- the longest frame
small-test : all_below (λ k. leb (get_or sizes k 0) 1440) 128 ≡ true
small-test = refl

small_size : (k : ℕ) → k < 128 → get_or sizes k 0 ≤ 1440
small_size k h = leb-true (get_or sizes k 0) 1440 (below (λ k. leb (get_or sizes k 0) 1440) 128 small-test k h)

pub size-table : SizeTable sizes
size-table = record { in-first = first-size; in-second = second-size; small = small_size }
