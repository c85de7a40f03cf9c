-- Laws of runs of characters.
use Prim.Native.Nat.{ℕ, zero, suc, ◌+◌, ◌-◌, ◌≤◌, ◌<◌}
use native.Mathlib.Omega.{arith}
use mathlib.Core.Path.{◌≡◌, refl, sym, ap, ◌∙◌}
use mathlib.Core.Bool.{true}
use mathlib.Core.List.{List, [], ◌∷◌, ◌++◌}
use lib.Dec.{ltb, eqb}
use lib.ListN.{length, get_or, take, drop, take-append-drop, length-drop}
use lib.Seq.{drop-cons, drop-drop, take-add, take-length}
use borrow.Author.Tests.{lt-ltb, ne_eqb}
use Rattle.utf8.specs.declared.Part.TheVariants.{Good, Bad}
use Rattle.utf8.specs.Utf8.{step_of, valid, valid_from, plain as ascii}
use Rattle.utf8.proofs.Laws.{valid-plain, valid-append, valid-char}
use Rattle.lists.specs.Bytes.{all}
use Rattle.lists.specs.Write.{part}
use Rattle.lists.proofs.All.{last-all}
use Rattle.lists.proofs.Places.{length_part}
use Rattle.utf8.specs.Runs.{Stretch, stop_of, Ran}
use Rattle.utf8.proofs.Turn.{Turn, bad, ended}

part_join : (s : List ℕ) (a m e : ℕ) → a ≤ m → m ≤ e → part a e s ≡ part a m s ++ part m e s
part_join s a m e h k =
    let p : e - a ≡ (m - a) + (e - m) = omega arith in
    let q : a + (m - a) ≡ m = omega arith in
    rw (p, take-add, drop-drop, q)

-- what stands from a place is what stands up to a later one, and the rest
pub part-rest : (s : List ℕ) (a e : ℕ) → a ≤ e → drop a s ≡ part a e s ++ drop e s
part-rest s a e h =
    let q : a + (e - a) ≡ e = omega arith in
    sym (take-append-drop (e - a) (drop a s)) ∙ rw (drop-drop, q)

pub none : (s : List ℕ) (at : ℕ) → at ≤ length s → Stretch s at at
none s at h =
    let z : at - at ≡ 0 = omega arith in
    record { order = omega arith; inside = h; good = rw z (unfold valid valid_from in refl) }

-- at the front
pub front : {s : List ℕ} {a e : ℕ} → a ≡ 0 → Stretch s 0 e → Stretch s a e
front z x = rw z x

pub join : {s : List ℕ} {a m e : ℕ} → Stretch s a m → Stretch s m e → Stretch s a e
join {s} {a} {m} {e} x y =
    record {
      order = omega arith;
      inside = y.inside;
      good = rw (part_join s a m e x.order y.order, valid-append (part a m s) (part m e s) x.good) y.good;
    }

-- one more ASCII byte
pub plain : {s : List ℕ} {a m : ℕ} (e : ℕ) → Stretch s a m → e ≡ m + 1 → e ≤ length s → get_or s m 0 < 0x80 → Stretch s a e
unfolding all
plain {s} {a} {m} e x n h b =
    let one : e - m ≡ 1 = omega arith in
    let in-s : m < length s = omega arith in
    join x (record { order = omega arith; inside = h; good = rw (one, drop-cons s m 0) (valid-plain (get_or s m 0 ∷ []) (rw (lt-ltb _ _ b))) })

-- one more block of ASCII
pub block : {s : List ℕ} {a m : ℕ} (w : ℕ) → Stretch s a m → ascii (take w (drop m s)) ≡ true → m + w ≤ length s → Stretch s a (m + w)
block {s} {a} {m} w x e h =
    let z : m + w - m ≡ w = omega arith in
    join x (record { order = omega arith; inside = h; good = rw z (valid-plain (take w (drop m s)) e) })

-- the last block, which may reach back into what was passed
pub block_back : {s : List ℕ} {a m : ℕ} (w last : ℕ) → Stretch s a m → ascii (take w (drop last s)) ≡ true → length s ≡ last + w → last ≤ m → Stretch s a (length s)
block_back {s} {a} {m} w last x e long h =
    let n : length (drop m s) ≡ length s - m = length-drop m s in
    let rest : ascii (drop m s) ≡ true = last-all (λ (b : ℕ). ltb b 0x80) s w last long e m h in
    join x (record { order = x.inside; inside = omega arith; good = rw (← n, take-length) (valid-plain (drop m s) rest) })

-- one more character
pub char : {s : List ℕ} {a m n : ℕ} → Stretch s a m → step_of (drop m s) ≡ Good n → m + n ≤ length s → Stretch s a (m + n)
char {s} {a} {m} {n} x e h =
    let z : m + n - m ≡ n = omega arith in
    join x (record { order = omega arith; inside = h; good = rw z (valid-char (drop m s) n e) })

valid-stretch : {s : List ℕ} {a e : ℕ} → Stretch s a e → valid (drop a s) ≡ valid (drop e s)
valid-stretch {s} {a} {e} x = ap valid (part-rest s a e x.order) ∙ valid-append (part a e s) (drop e s) x.good

-- at the end there is nothing more
pub last : {s : List ℕ} {a e b : ℕ} → Ran s a e b → b ≡ 0 → drop e s ≡ []
last {s} {a} {e} {b} x h = ended s e (sym x.stop) (rw h)

valid-stop : (s : List ℕ) (e b : ℕ) → step_of (drop e s) ≡ stop_of b → valid (drop e s) ≡ eqb b 0
valid-stop s e zero p = rw (ended s e (sym p) refl) (unfold valid valid_from in refl)
valid-stop s e (suc n) p = let t : Turn s e (Bad (suc n)) = bad (sym p) refl in t.tells ∙ sym (ne_eqb (suc n) 0 (λ q. omega arith))

-- the text from a place is valid where no ill-formed part follows
pub valid-ran : {s : List ℕ} {a e b : ℕ} → Ran s a e b → valid (drop a s) ≡ eqb b 0
valid-ran {s} {a} {e} {b} x = valid-stretch x.stretch ∙ valid-stop s e b x.stop

pub stops : (n : ℕ) → 0 < n → Bad n ≡ stop_of n
stops zero h = absurd (omega arith)
stops (suc n) h = refl

pub part-size : {s : List ℕ} {a e : ℕ} → Stretch s a e → length (part a e s) ≡ e - a
part-size {s} {a} {e} x = length_part a e s x.inside
