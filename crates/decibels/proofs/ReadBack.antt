-- Laws of gain texts as they are written: their length, their bytes, and that they read back.
use Prim.Native.Nat.{ℕ, ◌/◌, ◌%◌, ◌≤◌, ◌<◌}
use native.Mathlib.Omega.{arith}
use mathlib.Core.Path.{◌≡◌, refl, sym, ap}
use mathlib.Core.Logic.{◌≢◌}
use mathlib.Core.Bool.{Bool, true, false}
use Rattle.std.specs.Prelude.{Some}
use mathlib.Core.List.{List, ◌∷◌, ◌++◌}
use lib.ListN.{length, length-append}
use lib.Seq.{take_at, drop_at}
use borrow.Author.Tests.{le-leb}
use Rattle.lists.specs.Bytes.{ascii, all, same}
use Rattle.number.specs.Reading.{is_minus, unsigned}
use Rattle.decimal.specs.Writing.{places, decimal, sign_byte}
use Rattle.decimal.proofs.Places.{length-places}
use Rattle.decimal.proofs.ReadBack.{Mark, marks-decimal, marks-places, before-marks, behind-marks, natural-places, natural-decimal, length-decimal, digits-at-most, Plain, plain-before}
use Rattle.decibels.specs.Gain.{fraction, millionths, parse_gain, format_gain}
use Rattle.decibels.specs.declared.Millionths.{Millionths}

pub length-gain : (a : Millionths) → length (format_gain a) ≤ 21
unfolding format_gain
length-gain a = simp (length-append, length-places) (omega (arith, length-decimal 1 9 (a.1 / 1000000)))

plain-sign : (minus : Bool) (s : List ℕ) → Plain s → Plain (sign_byte minus ∷ s)
unfolding all
plain-sign true s p = p
plain-sign false s p = p

pub plain-gain : (a : Millionths) → Plain (format_gain a)
unfolding format_gain all
plain-gain a =
    let w : List ℕ = decimal 1 9 (a.1 / 1000000) in
    let f : List ℕ = places 6 (a.1 % 1000000) in
    plain-sign a.0 (w ++ (46 ∷ (f ++ ascii " dB")))
    (plain-before w (46 ∷ (f ++ ascii " dB")) (marks-decimal 1 9 (a.1 / 1000000)) (plain-before f (ascii " dB") (marks-places 6 (a.1 % 1000000)) refl))

-- ---- a gain text reads back, with four digits before the point

point : (x : ℕ) → Mark x → x ≢ 46
point x h = h.no-point

fraction-back : (n : ℕ) → n < 1000000 → fraction (places 6 n ++ ascii " dB") ≡ Some n
unfolding fraction same
fraction-back n h =
    let f : List ℕ = places 6 n in
    rw (
      take_at f (ascii " dB") 6 (length-places 6 n),
      drop_at f (ascii " dB") 6 (length-places 6 n),
      natural-places 6 n (omega arith) (omega arith),
      le-leb 6 (length (f ++ ascii " dB")) (simp (length-append, length-places) (omega arith)),
    )

millionths-back : (n : ℕ) → n < 10000000000
    → millionths (decimal 1 9 (n / 1000000) ++ (46 ∷ (places 6 (n % 1000000) ++ ascii " dB"))) ≡ Some n
unfolding millionths
millionths-back n h =
    let a : ℕ = n / 1000000 in
    let b : ℕ = n % 1000000 in
    let w : List ℕ = decimal 1 9 a in
    let t : List ℕ = places 6 b ++ ascii " dB" in
    rw (
      behind-marks 46 point t w (marks-decimal 1 9 a),
      before-marks 46 point t w (marks-decimal 1 9 a),
      le-leb (length w) 4 (digits-at-most 4 1 9 a (omega arith) (omega arith)),
      natural-decimal 1 9 a (omega arith) (omega arith),
      fraction-back b (omega arith),
    )
    (ap Some (omega arith))

gain-sign : (minus : Bool) (s : List ℕ) → (is_minus (sign_byte minus ∷ s) ≡ minus) × (unsigned (sign_byte minus ∷ s) ≡ s)
unfolding is_minus unsigned
gain-sign true s = (refl, refl)
gain-sign false s = (refl, refl)

pub gain-back : (a : Millionths) → a.1 < 10000000000 → a.2 ≡ 0 → parse_gain (format_gain a) ≡ Some a
unfolding parse_gain format_gain
gain-back a h z =
    let s : List ℕ = decimal 1 9 (a.1 / 1000000) ++ (46 ∷ (places 6 (a.1 % 1000000) ++ ascii " dB")) in
    rw ((gain-sign a.0 s).0, (gain-sign a.0 s).1, millionths-back a.1 h) (ap (λ (k : ℕ). Some (record { 0 = a.0; 1 = a.1; 2 = k })) (sym z))
