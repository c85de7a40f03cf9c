-- Laws of the range of gains: field by field, frame by frame, and side by side.
use Prim.Native.Nat.{ℕ, suc, ◌+◌, ◌*◌, ◌≤◌, min, max}
use native.Mathlib.Omega.{arith}
use mathlib.Core.Path.{◌≡◌, refl, sym, ap, ◌∙◌}
use mathlib.Core.Bool.{Bool, true, false, ◌||◌}
use mathlib.Core.List.{List, [], ◌∷◌, ◌++◌, map}
use lib.ListN.{length}
use Rattle.layer3.specs.declared.Frame.{Frame}
use Rattle.std.specs.Prelude.{Some}
use Rattle.layer3.specs.Bits.{read_bits}
use Rattle.layer3.specs.Fields.{Field, left, right, fields_from, read_left, read_right, moved_gains}
use Rattle.layer3.specs.Walk.{frame_at, walk, fields_of, any_frame, any_checksum}
use Rattle.layer3.proofs.Fields.{gains-append}
use Rattle.layer3.proofs.Walk.{walk_end, walk-frame}
use Rattle.layer3.proofs.Places.{granules}
use Rattle.calls.specs.Calls.{least, greatest}
use Rattle.sound_gains.specs.declared.Progress.{Progress}
use Rattle.sound_gains.specs.Scan.{frames_found, checksum_found, least_found, greatest_found}

-- beside the greatest byte
pub least-all : (gs : List ℕ) → min 255 (least gs) ≡ least gs
unfolding least
least-all [] = refl
least-all (g ∷ gs) = let e = least-all gs in omega arith

-- two lists
least-append : (as' bs : List ℕ) → least (as' ++ bs) ≡ min (least as') (least bs)
unfolding least
least-append [] bs = sym (least-all bs)
least-append (a ∷ as') bs = let e = least-append as' bs in omega arith

greatest-append : (as' bs : List ℕ) → greatest (as' ++ bs) ≡ max (greatest as') (greatest bs)
unfolding greatest
greatest-append [] bs = omega arith
greatest-append (a ∷ as') bs = let e = greatest-append as' bs in omega arith

-- ---- side by side

module _ (f g : ℕ → ℕ) where
  pub least-sides : (fs : List Field) (s : List ℕ) → least (moved_gains f g fs s) ≡ least (map f (read_left fs s) ++ map g (read_right fs s))
  unfolding moved_gains read_left read_right least
  least-sides fs s = go fs ∙ sym (least-append (map f (read_left fs s)) (map g (read_right fs s)))
    where
      go : (fs : List Field) → least (moved_gains f g fs s) ≡ min (least (map f (read_left fs s))) (least (map g (read_right fs s)))
      go [] = refl
      go (left o ∷ fs) = let e = go fs in omega arith
      go (right o ∷ fs) = let e = go fs in omega arith

  pub greatest-sides : (fs : List Field) (s : List ℕ) → greatest (moved_gains f g fs s) ≡ greatest (map f (read_left fs s) ++ map g (read_right fs s))
  unfolding moved_gains read_left read_right greatest
  greatest-sides fs s = go fs ∙ sym (greatest-append (map f (read_left fs s)) (map g (read_right fs s)))
    where
      go : (fs : List Field) → greatest (moved_gains f g fs s) ≡ max (greatest (map f (read_left fs s))) (greatest (map g (read_right fs s)))
      go [] = refl
      go (left o ∷ fs) = let e = go fs in omega arith
      go (right o ∷ fs) = let e = go fs in omega arith

-- ---- one granule of a frame

module _ (k j bit next : ℕ) (mono : Bool) (more : k ≡ suc j) (f g : ℕ → ℕ) (s : List ℕ) where
  module _ (e : mono ≡ true) where
    pub least-one : least (moved_gains f g (granules k mono bit next) s) ≡ min (f (read_bits s bit)) (least (moved_gains f g (granules j mono (bit + next) next) s))
    unfolding granules moved_gains least
    least-one = rw (more, e)

    pub greatest-one : greatest (moved_gains f g (granules k mono bit next) s) ≡ max (f (read_bits s bit)) (greatest (moved_gains f g (granules j mono (bit + next) next) s))
    unfolding granules moved_gains greatest
    greatest-one = rw (more, e)

  module _ (e : mono ≡ false) where
    pub least-two : least (moved_gains f g (granules k mono bit next) s)
        ≡ min (f (read_bits s bit)) (min (g (read_bits s (bit + next))) (least (moved_gains f g (granules j mono (bit + next + next) next) s)))
    unfolding granules moved_gains least
    least-two = rw (more, e)

    pub greatest-two : greatest (moved_gains f g (granules k mono bit next) s)
        ≡ max (f (read_bits s bit)) (max (g (read_bits s (bit + next))) (greatest (moved_gains f g (granules j mono (bit + next + next) next) s)))
    unfolding granules moved_gains greatest
    greatest-two = rw (more, e)

-- ---- one step of the walk

module _ (s : List ℕ) (at : ℕ) where
  module _ (h : Frame) (e : frame_at s at ≡ Some h) where
    pub scan-frame : (t : Bool) → (t || any_frame (walk (length s) s at)) ≡ true
    scan-frame true = refl
    scan-frame false = rw (walk-frame s at h e)

    pub scan-checksum : (t : Bool) → ((t || h.checksum) || any_checksum (walk (length s) s (at + h.size))) ≡ (t || any_checksum (walk (length s) s at))
    unfolding any_checksum
    scan-checksum true = refl
    scan-checksum false = rw (walk-frame s at h e)

    module _ (f g : ℕ → ℕ) where
      gains-over : moved_gains f g (fields_of (walk (length s) s at)) s ≡ moved_gains f g (fields_from (8 * at) h) s ++ moved_gains f g (fields_of (walk (length s) s (at + h.size))) s
      unfolding fields_of
      gains-over = rw (walk-frame s at h e) (gains-append f g (fields_from (8 * at) h) (fields_of (walk (length s) s (at + h.size))) s)

      pub scan-least : (x y : ℕ) → y ≡ min x (least (moved_gains f g (fields_from (8 * at) h) s))
          → min y (least (moved_gains f g (fields_of (walk (length s) s (at + h.size))) s)) ≡ min x (least (moved_gains f g (fields_of (walk (length s) s at)) s))
      scan-least x y q =
          let p = least-append (moved_gains f g (fields_from (8 * at) h) s) (moved_gains f g (fields_of (walk (length s) s (at + h.size))) s) in
          let r : least (moved_gains f g (fields_of (walk (length s) s at)) s) ≡ _ = ap least gains-over ∙ p in
          omega (arith, q, r)

      pub scan-greatest : (x y : ℕ) → y ≡ max x (greatest (moved_gains f g (fields_from (8 * at) h) s))
          → max y (greatest (moved_gains f g (fields_of (walk (length s) s (at + h.size))) s)) ≡ max x (greatest (moved_gains f g (fields_of (walk (length s) s at)) s))
      scan-greatest x y q =
          let p = greatest-append (moved_gains f g (fields_from (8 * at) h) s) (moved_gains f g (fields_of (walk (length s) s (at + h.size))) s) in
          let r : greatest (moved_gains f g (fields_of (walk (length s) s at)) s) ≡ _ = ap greatest gains-over ∙ p in
          omega (arith, q, r)

-- ---- the end of a scan

or-false : (t : Bool) → (t || false) ≡ t
or-false true = refl
or-false false = refl

module _ (f g : ℕ → ℕ) (s : List ℕ) (x : Progress) (ends : length s ≤ x.at) where
  none_left : walk (length s) s x.at ≡ []
  none_left = walk_end s x.at ends

  pub end-frames : frames_found s x ≡ x.found.frames
  end-frames = rw none_left (or-false x.found.frames)

  pub end-checksum : checksum_found s x ≡ x.found.checksum
  unfolding any_checksum
  end-checksum = rw none_left (or-false x.found.checksum)

  pub end-least : x.found.range.least ≤ 255 → least_found f g s x ≡ x.found.range.least
  unfolding fields_of moved_gains least
  end-least h = rw none_left (omega arith)

  pub end-greatest : greatest_found f g s x ≡ x.found.range.greatest
  unfolding fields_of moved_gains greatest
  end-greatest = rw none_left (omega arith)
