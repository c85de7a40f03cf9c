-- Laws of gains that are stored in a list one after another.
use mathlib.Core.Bool.{Bool, true, false}
use Prim.Native.Nat.{ℕ, suc, ◌+◌, ◌*◌, ◌≤◌}
use native.Mathlib.Omega.{arith}
use mathlib.Core.Path.{◌≡◌, refl, sym, ap, ◌∙◌}
use mathlib.Core.List.{List, [], ◌∷◌, ◌++◌, append-nil, append_assoc}
use lib.ListN.{length, length-append, set, take}
use lib.Seq.{set_out}
use Rattle.lists.specs.Write.{over}
use Rattle.layer3.specs.declared.Frame.{Frame}
use Rattle.std.specs.Prelude.{Some}
use Rattle.layer3.specs.Bits.{read_bits}
use Rattle.layer3.specs.Fields.{Field, left, right, fields_from, read_left, read_right}
use Rattle.layer3.specs.Walk.{frame_at, walk, fields_of}
use Rattle.layer3.proofs.Places.{granules}
use Rattle.layer3.proofs.Walk.{walk_end, walk-frame}
use Rattle.sound_lists.specs.Lists.{filled, lefts_from, rights_from}

-- ---- one granule of a frame

-- a gain stored, and what is left to store
pub stored-one : (out out' gs rest : List ℕ) (i r g : ℕ) → (r ≡ i + 1) × (out' ≡ set out i g) → gs ≡ g ∷ rest → (r + length rest ≡ i + length gs) × (filled out' r rest ≡ filled out i gs)
unfolding filled
stored-one out out' gs rest i r g (n, e) w = rw (w, n, e) (omega arith, refl)

module _ (s : List ℕ) (k j bit next : ℕ) (mono : Bool) (more : k ≡ suc j) where
  module _ (e : mono ≡ true) where
    pub left-one : read_left (granules k mono bit next) s ≡ read_bits s bit ∷ read_left (granules j mono (bit + next) next) s
    unfolding granules read_left
    left-one = rw (more, e)

    pub right-one : read_right (granules k mono bit next) s ≡ read_right (granules j mono (bit + next) next) s
    unfolding granules read_right
    right-one = rw (more, e)

  module _ (e : mono ≡ false) where
    pub left-two : read_left (granules k mono bit next) s ≡ read_bits s bit ∷ read_left (granules j mono (bit + next + next) next) s
    unfolding granules read_left
    left-two = rw (more, e)

    pub right-two : read_right (granules k mono bit next) s ≡ read_bits s (bit + next) ∷ read_right (granules j mono (bit + next + next) next) s
    unfolding granules read_right
    right-two = rw (more, e)

-- ---- one list behind another

filled-append : (out : List ℕ) (i : ℕ) (as' bs : List ℕ) → filled out i (as' ++ bs) ≡ filled (filled out i as') (i + length as') bs
unfolding filled
filled-append out i [] bs = let n : i ≡ i + 0 = omega arith in ap (λ (k : ℕ). filled out k bs) n
filled-append out i (a ∷ as') bs =
    let n : i + 1 + length as' ≡ i + length (a ∷ as') = omega arith in
    filled-append (set out i a) (i + 1) as' bs ∙ ap (λ (k : ℕ). filled (filled (set out i a) (i + 1) as') k bs) n

stored : (as' bs whole : List ℕ) → whole ≡ as' ++ bs → (out : List ℕ) (i : ℕ) (new : List ℕ) (r : ℕ) → (r ≡ i + length as') × (new ≡ filled out i as')
    → (r + length bs ≡ i + length whole) × (filled new r bs ≡ filled out i whole)
stored as' bs whole w out i new r p =
    let n : length whole ≡ length as' + length bs = ap length w ∙ length-append as' bs in
    (omega (arith, p.0, n), rw (p.1, p.0, w) (sym (filled-append out i as' bs)))

left-append : (fs gs : List Field) (s : List ℕ) → read_left (fs ++ gs) s ≡ read_left fs s ++ read_left gs s
unfolding read_left
left-append [] gs s = refl
left-append (left o ∷ fs) gs s = ap (λ (l : List ℕ). read_bits s o ∷ l) (left-append fs gs s)
left-append (right o ∷ fs) gs s = left-append fs gs s

right-append : (fs gs : List Field) (s : List ℕ) → read_right (fs ++ gs) s ≡ read_right fs s ++ read_right gs s
unfolding read_right
right-append [] gs s = refl
right-append (left o ∷ fs) gs s = right-append fs gs s
right-append (right o ∷ fs) gs s = ap (λ (l : List ℕ). read_bits s o ∷ l) (right-append fs gs s)

-- ---- one step of the walk

module _ (s : List ℕ) (at : ℕ) (h : Frame) (e : frame_at s at ≡ Some h) (next : ℕ) (q : next ≡ at + h.size) where
  left-from : lefts_from s at ≡ read_left (fields_from (8 * at) h) s ++ lefts_from s next
  unfolding fields_of
  left-from = rw (walk-frame s at h e, q) (left-append (fields_from (8 * at) h) (fields_of (walk (length s) s (at + h.size))) s)

  right-from : rights_from s at ≡ read_right (fields_from (8 * at) h) s ++ rights_from s next
  unfolding fields_of
  right-from = rw (walk-frame s at h e, q) (right-append (fields_from (8 * at) h) (fields_of (walk (length s) s (at + h.size))) s)

  module _ (out : List ℕ) (i : ℕ) (new : List ℕ) (r : ℕ) where
    pub left_over : (r ≡ i + length (read_left (fields_from (8 * at) h) s)) × (new ≡ filled out i (read_left (fields_from (8 * at) h) s))
        → (r + length (lefts_from s next) ≡ i + length (lefts_from s at)) × (filled new r (lefts_from s next) ≡ filled out i (lefts_from s at))
    left_over p = stored (read_left (fields_from (8 * at) h) s) (lefts_from s next) (lefts_from s at) left-from out i new r p

    pub right-over : (r ≡ i + length (read_right (fields_from (8 * at) h) s)) × (new ≡ filled out i (read_right (fields_from (8 * at) h) s))
        → (r + length (rights_from s next) ≡ i + length (rights_from s at)) × (filled new r (rights_from s next) ≡ filled out i (rights_from s at))
    right-over p = stored (read_right (fields_from (8 * at) h) s) (rights_from s next) (rights_from s at) right-from out i new r p

-- ---- the end of the walk

module _ (s : List ℕ) (at : ℕ) (ends : length s ≤ at) (out : List ℕ) (i : ℕ) where
  pub left_end : (i + length (lefts_from s at) ≡ i) × (filled out i (lefts_from s at) ≡ out)
  unfolding fields_of read_left filled
  left_end = rw (walk_end s at ends) (omega arith, refl)

  pub right_end : (i + length (rights_from s at) ≡ i) × (filled out i (rights_from s at) ≡ out)
  unfolding fields_of read_right filled
  right_end = rw (walk_end s at ends) (omega arith, refl)

-- ---- a list filled from its first place on

set-behind : (pre : List ℕ) (x : ℕ) (post : List ℕ) (g : ℕ) → set (pre ++ x ∷ post) (length pre) g ≡ pre ++ g ∷ post
set-behind [] x post g = refl
set-behind (p ∷ pre) x post g = ap (λ (l : List ℕ). p ∷ l) (set-behind pre x post g)

filled-past : (out : List ℕ) (i : ℕ) (gs : List ℕ) → length out ≤ i → filled out i gs ≡ out
unfolding filled
filled-past out i [] h = refl
filled-past out i (g ∷ gs) h = ap (λ (l : List ℕ). filled l (i + 1) gs) (set_out out i g h) ∙ filled-past out (i + 1) gs (omega arith)

filled-behind : (gs pre post : List ℕ) → filled (pre ++ post) (length pre) gs ≡ pre ++ over (take (length post) gs) post
unfolding filled
filled-behind [] pre [] = refl
filled-behind [] pre (x ∷ post) = refl
filled-behind (g ∷ gs) pre [] = filled-past (pre ++ []) (length pre) (g ∷ gs) (simp append-nil (omega arith))
filled-behind (g ∷ gs) pre (x ∷ post) =
    let n : length pre + 1 ≡ length (pre ++ g ∷ []) = simp length-append (omega arith) in
    let l : pre ++ g ∷ post ≡ (pre ++ g ∷ []) ++ post = sym (append_assoc pre (g ∷ []) post) in
    ap (λ (l : List ℕ). filled l (length pre + 1) gs) (set-behind pre x post g ∙ l)
    ∙ ap (λ (k : ℕ). filled ((pre ++ g ∷ []) ++ post) k gs) n
    ∙ filled-behind gs (pre ++ g ∷ []) post
    ∙ append_assoc pre (g ∷ []) (over (take (length post) gs) post)

-- as many gains as there is room for stand at the front, and what is behind them stays
pub filled-over : (out gs : List ℕ) → filled out 0 gs ≡ over (take (length out) gs) out
filled-over out gs = filled-behind gs [] out
