-- Laws of lists of fields that share no byte: gains that were written are read back, and nothing else changes.
use Prim.Native.Nat.{ℕ, suc, ◌+◌, ◌/◌, ◌%◌, ◌≤◌, ◌<◌}
use native.Mathlib.Omega.{arith}
use native.Mathlib.Nat.{suc_inj}
use mathlib.Core.Path.{◌≡◌, refl, sym, ap, ◌∙◌}
use mathlib.Core.Logic.{◌⊎◌, inl, inr}
use mathlib.Core.List.{List, [], ◌∷◌, ◌++◌, map}
use lib.ListN.{length, get_or}
use Rattle.lists.specs.Bytes.{Small}
use Rattle.layer3.specs.Bits.{read_bits, write_bits}
use Rattle.layer3.specs.Fields.{Field, left, right, place_of, read_left, read_right, write_fields, moved_by, moved_gains}
use Rattle.layer3.proofs.Bits.{length-write, write-other, read-written, read-apart, write-twice, write_same, write-apart, small-write, small-read}

-- the byte where a field begins
abbrev pub byte_of : Field → ℕ
byte_of f = place_of f / 8

-- byte i is none of the two bytes of any field
abbrev pub Outside : ℕ → List Field → Type 0
Outside i [] = Unit {0}
Outside i (f ∷ fs) = ((i < byte_of f) ⊎ (byte_of f + 2 ≤ i)) × Outside i fs

-- the fields stand in order in the bytes from k to e, no two in one byte, and none begins with a byte
pub data Spread : ℕ → ℕ → List Field → Type 0 where
  none : {k e : ℕ} → Spread k e []
  more : {k e : ℕ} {f : Field} {fs : List Field} → k ≤ byte_of f → byte_of f + 2 ≤ e → 0 < place_of f % 8 → Spread (byte_of f + 2) e fs → Spread k e (f ∷ fs)

-- each of them is a byte
abbrev pub AllSmall : List ℕ → Type 0
AllSmall [] = Unit {0}
AllSmall (g ∷ gs) = (g < 256) × AllSmall gs

-- ---- Spread

-- the same, as a product for each list
abbrev pub Spaced : ℕ → ℕ → List Field → Type 0
Spaced k e [] = Unit {0}
Spaced k e (f ∷ fs) = ((k ≤ byte_of f) × (byte_of f + 2 ≤ e) × (0 < place_of f % 8)) × Spaced (byte_of f + 2) e fs

pub spaced : (k e : ℕ) (fs : List Field) → Spaced k e fs → Spread k e fs
spaced k e [] p = none
spaced k e (f ∷ fs) ((a, b, c), p) = more a b c (spaced (byte_of f + 2) e fs p)

pub spread-from : {k j e : ℕ} (fs : List Field) → j ≤ k → Spread k e fs → Spread j e fs
spread-from [] h p = none
spread-from {k} {j} {e} (f ∷ fs) h (more a b c p) = more {k = j} {f = f} (omega arith) b c p

pub spread-to : {k e d : ℕ} (fs : List Field) → e ≤ d → Spread k e fs → Spread k d fs
spread-to [] h p = none
spread-to {k} {e} {d} (f ∷ fs) h (more a b c p) = more {e = d} {f = f} a (omega arith) c (spread-to {k = byte_of f + 2} fs h p)

-- one list behind another
pub spread-append : {k m e : ℕ} (fs gs : List Field) → k ≤ m → m ≤ e → Spread k m fs → Spread m e gs → Spread k e (fs ++ gs)
spread-append [] gs h l p q = spread-from gs h q
spread-append {k} {m} {e} (f ∷ fs) gs h l (more a b c p) q = more {e = e} {f = f} a (omega arith) c (spread-append {k = byte_of f + 2} fs gs b l p q)

-- bytes before all of them, and behind
pub outside-before : {k e : ℕ} (i : ℕ) (fs : List Field) → i < k → Spread k e fs → Outside i fs
outside-before i [] h p = tt
outside-before {k = k} i (f ∷ fs) h (more a b c p) = (inl (omega arith), outside-before {k = byte_of f + 2} i fs (omega arith) p)

pub outside_behind : {k e : ℕ} (i : ℕ) (fs : List Field) → e ≤ i → Spread k e fs → Outside i fs
outside_behind i [] h p = tt
outside_behind {k = k} i (f ∷ fs) h (more a b c p) = (inr (omega arith), outside_behind {k = byte_of f + 2} i fs h p)

pub outside-append : (i : ℕ) (fs gs : List Field) → Outside i fs → Outside i gs → Outside i (fs ++ gs)
outside-append i [] gs p q = q
outside-append i (f ∷ fs) gs (a, p) q = (a, outside-append i fs gs p q)

-- ---- only the fields change

pub length-gains : (fs : List Field) (ls rs s : List ℕ) → length (write_fields fs ls rs s) ≡ length s
unfolding write_fields
length-gains [] ls rs s = refl
length-gains (left o ∷ fs) [] rs s = length-gains fs [] rs s
length-gains (left o ∷ fs) (g ∷ ls) rs s = length-gains fs ls rs (write_bits s o g) ∙ length-write s o g
length-gains (right o ∷ fs) ls [] s = length-gains fs ls [] s
length-gains (right o ∷ fs) ls (g ∷ rs) s = length-gains fs ls rs (write_bits s o g) ∙ length-write s o g

pub gains-other : (i : ℕ) (fs : List Field) (ls rs s : List ℕ) → Outside i fs → get_or (write_fields fs ls rs s) i 0 ≡ get_or s i 0
unfolding write_fields
gains-other i [] ls rs s p = refl
gains-other i (left o ∷ fs) [] rs s (a, p) = gains-other i fs [] rs s p
gains-other i (left o ∷ fs) (g ∷ ls) rs s (a, p) = gains-other i fs ls rs (write_bits s o g) p ∙ write-other s o g i a
gains-other i (right o ∷ fs) ls [] s (a, p) = gains-other i fs ls [] s p
gains-other i (right o ∷ fs) ls (g ∷ rs) s (a, p) = gains-other i fs ls rs (write_bits s o g) p ∙ write-other s o g i a

pub small-gains : (fs : List Field) (ls rs s : List ℕ) → AllSmall ls → AllSmall rs → Small s → Small (write_fields fs ls rs s)
unfolding write_fields
small-gains [] ls rs s p q b = b
small-gains (left o ∷ fs) [] rs s p q b = small-gains fs [] rs s p q b
small-gains (left o ∷ fs) (g ∷ ls) rs s (h, p) q b = small-gains fs ls rs (write_bits s o g) p q (small-write s o g b h)
small-gains (right o ∷ fs) ls [] s p q b = small-gains fs ls [] s p q b
small-gains (right o ∷ fs) ls (g ∷ rs) s p (h, q) b = small-gains fs ls rs (write_bits s o g) p q (small-write s o g b h)

-- ---- a field before all others

module _ (o e : ℕ) where
  -- reads the same before and after
  read-gains : (fs : List Field) (ls rs s : List ℕ) → Spread (o / 8 + 2) e fs → read_bits (write_fields fs ls rs s) o ≡ read_bits s o
  unfolding read_bits
  read-gains fs ls rs s p =
      rw (gains-other (o / 8) fs ls rs s (outside-before (o / 8) fs (omega arith) p), gains-other (o / 8 + 1) fs ls rs s (outside-before (o / 8 + 1) fs (omega arith) p))

  -- may be written before them or after
  write-gains : (fs : List Field) (ls rs s : List ℕ) (v : ℕ) → Spread (o / 8 + 2) e fs → write_bits (write_fields fs ls rs s) o v ≡ write_fields fs ls rs (write_bits s o v)
  unfolding write_fields
  write-gains [] ls rs s v p = refl
  write-gains (left q ∷ fs) [] rs s v (more a b c p) = write-gains fs [] rs s v (spread-from fs (omega arith) p)
  write-gains (left q ∷ fs) (g ∷ ls) rs s v (more a b c p) =
      write-gains fs ls rs (write_bits s q g) v (spread-from fs (omega arith) p) ∙ ap (write_fields fs ls rs) (sym (write-apart s o q v g a))
  write-gains (right q ∷ fs) ls [] s v (more a b c p) = write-gains fs ls [] s v (spread-from fs (omega arith) p)
  write-gains (right q ∷ fs) ls (g ∷ rs) s v (more a b c p) =
      write-gains fs ls rs (write_bits s q g) v (spread-from fs (omega arith) p) ∙ ap (write_fields fs ls rs) (sym (write-apart s o q v g a))

  -- is not read by them
  pub left-write : (fs : List Field) (s : List ℕ) (v : ℕ) → Spread (o / 8 + 2) e fs → read_left fs (write_bits s o v) ≡ read_left fs s
  unfolding read_left
  left-write [] s v p = refl
  left-write (left q ∷ fs) s v (more a b c p) = rw (read-apart s o v q (inr a), left-write fs s v (spread-from fs (omega arith) p))
  left-write (right q ∷ fs) s v (more a b c p) = left-write fs s v (spread-from fs (omega arith) p)

  pub right-write : (fs : List Field) (s : List ℕ) (v : ℕ) → Spread (o / 8 + 2) e fs → read_right fs (write_bits s o v) ≡ read_right fs s
  unfolding read_right
  right-write [] s v p = refl
  right-write (left q ∷ fs) s v (more a b c p) = right-write fs s v (spread-from fs (omega arith) p)
  right-write (right q ∷ fs) s v (more a b c p) = rw (read-apart s o v q (inr a), right-write fs s v (spread-from fs (omega arith) p))

-- ---- gains

-- how many gains a side has does not depend on what stands in the fields
pub length-left : (fs : List Field) (s t : List ℕ) → length (read_left fs s) ≡ length (read_left fs t)
unfolding read_left
length-left [] s t = refl
length-left (left o ∷ fs) s t = ap suc (length-left fs s t)
length-left (right o ∷ fs) s t = length-left fs s t

pub length-right : (fs : List Field) (s t : List ℕ) → length (read_right fs s) ≡ length (read_right fs t)
unfolding read_right
length-right [] s t = refl
length-right (left o ∷ fs) s t = length-right fs s t
length-right (right o ∷ fs) s t = ap suc (length-right fs s t)

pub small-left : (fs : List Field) (s : List ℕ) → AllSmall (read_left fs s)
unfolding read_left
small-left [] s = tt
small-left (left o ∷ fs) s = (small-read s o, small-left fs s)
small-left (right o ∷ fs) s = small-left fs s

pub small-right : (fs : List Field) (s : List ℕ) → AllSmall (read_right fs s)
unfolding read_right
small-right [] s = tt
small-right (left o ∷ fs) s = small-right fs s
small-right (right o ∷ fs) s = (small-read s o, small-right fs s)

-- what was written is read back
pub left_back : {k e : ℕ} (fs : List Field) (ls rs s : List ℕ) → Spread k e fs → e ≤ length s → AllSmall ls → length ls ≡ length (read_left fs s)
    → read_left fs (write_fields fs ls rs s) ≡ ls
unfolding read_left write_fields
left_back [] [] rs s p h a l = refl
left_back [] (g ∷ ls) rs s p h a l = absurd (omega arith)
left_back {k = k} (left o ∷ fs) [] rs s p h a l = absurd (omega arith)
left_back {k} {e} (left o ∷ fs) (g ∷ ls) rs s (more x y z p) h (b, a) l =
    let t = write_bits s o g in
    let one : read_bits (write_fields fs ls rs t) o ≡ g = read-gains o e fs ls rs t p ∙ read-written s o g (omega arith) b in
    let rest : read_left fs (write_fields fs ls rs t) ≡ ls = left_back {k = o / 8 + 2} fs ls rs t p (omega (arith, length-write s o g)) a (suc_inj l ∙ length-left fs s t) in
    rw (one, rest)
left_back {k = k} (right o ∷ fs) ls [] s (more x y z p) h a l = left_back {k = o / 8 + 2} fs ls [] s p h a l
left_back {k = k} (right o ∷ fs) ls (g ∷ rs) s (more x y z p) h a l =
    let t = write_bits s o g in
    left_back {k = o / 8 + 2} fs ls rs t p (omega (arith, length-write s o g)) a (l ∙ length-left fs s t)

pub right-back : {k e : ℕ} (fs : List Field) (ls rs s : List ℕ) → Spread k e fs → e ≤ length s → AllSmall rs → length rs ≡ length (read_right fs s)
    → read_right fs (write_fields fs ls rs s) ≡ rs
unfolding read_right write_fields
right-back [] ls [] s p h a l = refl
right-back [] ls (g ∷ rs) s p h a l = absurd (omega arith)
right-back {k = k} (left o ∷ fs) [] rs s (more x y z p) h a l = right-back {k = o / 8 + 2} fs [] rs s p h a l
right-back {k = k} (left o ∷ fs) (g ∷ ls) rs s (more x y z p) h a l =
    let t = write_bits s o g in
    right-back {k = o / 8 + 2} fs ls rs t p (omega (arith, length-write s o g)) a (l ∙ length-right fs s t)
right-back {k = k} (right o ∷ fs) ls [] s p h a l = absurd (omega arith)
right-back {k} {e} (right o ∷ fs) ls (g ∷ rs) s (more x y z p) h (b, a) l =
    let t = write_bits s o g in
    let one : read_bits (write_fields fs ls rs t) o ≡ g = read-gains o e fs ls rs t p ∙ read-written s o g (omega arith) b in
    let rest : read_right fs (write_fields fs ls rs t) ≡ rs = right-back {k = o / 8 + 2} fs ls rs t p (omega (arith, length-write s o g)) a (suc_inj l ∙ length-right fs s t) in
    rw (one, rest)

-- the gains that stand there change nothing
pub gains-same : (fs : List Field) (s : List ℕ) → Small s → write_fields fs (read_left fs s) (read_right fs s) s ≡ s
unfolding read_left read_right write_fields
gains-same [] s b = refl
gains-same (left o ∷ fs) s b = ap (write_fields fs (read_left fs s) (read_right fs s)) (write_same s o b) ∙ gains-same fs s b
gains-same (right o ∷ fs) s b = ap (write_fields fs (read_left fs s) (read_right fs s)) (write_same s o b) ∙ gains-same fs s b

-- gains for every field, written over others, are as if there had been no others
pub gains-twice : {k e : ℕ} (fs : List Field) (ls rs ms ns s : List ℕ) → Spread k e fs → e ≤ length s → AllSmall ls → AllSmall rs
    → length ms ≡ length (read_left fs s) → length ns ≡ length (read_right fs s)
    → write_fields fs ms ns (write_fields fs ls rs s) ≡ write_fields fs ms ns s
unfolding read_left read_right write_fields
gains-twice [] ls rs ms ns s p h a b l m = refl
gains-twice (left o ∷ fs) ls rs [] ns s p h a b l m = absurd (omega arith)
gains-twice {k} {e} (left o ∷ fs) [] rs (u ∷ ms) ns s (more x y z p) h a b l m =
    let t = write_bits s o u in
    ap (write_fields fs ms ns) (write-gains o e fs [] rs s u p)
    ∙ gains-twice {k = o / 8 + 2} fs [] rs ms ns t p (omega (arith, length-write s o u)) a b (suc_inj l ∙ length-left fs s t) (m ∙ length-right fs s t)
gains-twice {k} {e} (left o ∷ fs) (g ∷ ls) rs (u ∷ ms) ns s (more x y z p) h (i, a) b l m =
    let t = write_bits s o u in
    ap (write_fields fs ms ns) (write-gains o e fs ls rs (write_bits s o g) u p ∙ ap (write_fields fs ls rs) (write-twice s o g u (omega arith) i))
    ∙ gains-twice {k = o / 8 + 2} fs ls rs ms ns t p (omega (arith, length-write s o u)) a b (suc_inj l ∙ length-left fs s t) (m ∙ length-right fs s t)
gains-twice (right o ∷ fs) ls rs ms [] s p h a b l m = absurd (omega arith)
gains-twice {k} {e} (right o ∷ fs) ls [] ms (u ∷ ns) s (more x y z p) h a b l m =
    let t = write_bits s o u in
    ap (write_fields fs ms ns) (write-gains o e fs ls [] s u p)
    ∙ gains-twice {k = o / 8 + 2} fs ls [] ms ns t p (omega (arith, length-write s o u)) a b (l ∙ length-left fs s t) (suc_inj m ∙ length-right fs s t)
gains-twice {k} {e} (right o ∷ fs) ls (g ∷ rs) ms (u ∷ ns) s (more x y z p) h a (i, b) l m =
    let t = write_bits s o u in
    ap (write_fields fs ms ns) (write-gains o e fs ls rs (write_bits s o g) u p ∙ ap (write_fields fs ls rs) (write-twice s o g u (omega arith) i))
    ∙ gains-twice {k = o / 8 + 2} fs ls rs ms ns t p (omega (arith, length-write s o u)) a b (l ∙ length-left fs s t) (suc_inj m ∙ length-right fs s t)

-- ---- every gain moved where it stands

-- is to write the moved gains
pub moved-gains : {k e : ℕ} (f g : ℕ → ℕ) (fs : List Field) (s : List ℕ) → Spread k e fs → moved_by f g fs s ≡ write_fields fs (map f (read_left fs s)) (map g (read_right fs s)) s
unfolding moved_by read_left read_right write_fields
moved-gains f g [] s p = refl
moved-gains {k} {e} f g (left o ∷ fs) s (more x y z p) =
    let v = f (read_bits s o) in
    moved-gains {k = o / 8 + 2} f g fs (write_bits s o v) p ∙ rw (left-write o e fs s v p, right-write o e fs s v p)
moved-gains {k} {e} f g (right o ∷ fs) s (more x y z p) =
    let v = g (read_bits s o) in
    moved-gains {k = o / 8 + 2} f g fs (write_bits s o v) p ∙ rw (left-write o e fs s v p, right-write o e fs s v p)

-- ---- two lists of fields, one after the other

pub moved-append : (f g : ℕ → ℕ) (xs ys : List Field) (s : List ℕ) → moved_by f g (xs ++ ys) s ≡ moved_by f g ys (moved_by f g xs s)
unfolding moved_by
moved-append f g [] ys s = refl
moved-append f g (left o ∷ xs) ys s = moved-append f g xs ys (write_bits s o (f (read_bits s o)))
moved-append f g (right o ∷ xs) ys s = moved-append f g xs ys (write_bits s o (g (read_bits s o)))

pub gains-append : (f g : ℕ → ℕ) (xs ys : List Field) (s : List ℕ) → moved_gains f g (xs ++ ys) s ≡ moved_gains f g xs s ++ moved_gains f g ys s
unfolding moved_gains
gains-append f g [] ys s = refl
gains-append f g (left o ∷ xs) ys s = ap (λ (l : List ℕ). f (read_bits s o) ∷ l) (gains-append f g xs ys s)
gains-append f g (right o ∷ xs) ys s = ap (λ (l : List ℕ). g (read_bits s o) ∷ l) (gains-append f g xs ys s)

pub length_moved : (f g : ℕ → ℕ) (fs : List Field) (s : List ℕ) → length (moved_by f g fs s) ≡ length s
unfolding moved_by
length_moved f g [] s = refl
length_moved f g (left o ∷ fs) s = length_moved f g fs (write_bits s o (f (read_bits s o))) ∙ length-write s o _
length_moved f g (right o ∷ fs) s = length_moved f g fs (write_bits s o (g (read_bits s o))) ∙ length-write s o _
