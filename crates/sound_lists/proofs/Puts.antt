-- Laws of gains that are put into fields one after another.
use Prim.Native.Nat.{ℕ, suc, ◌+◌, ◌*◌, ◌≤◌}
use native.Mathlib.Omega.{arith}
use mathlib.Core.Path.{◌≡◌, ◌∙◌}
use mathlib.Core.Bool.{Bool, true, false, cond}
use mathlib.Core.List.{List, [], ◌∷◌, ◌++◌}
use lib.ListN.{length}
use Rattle.layer3.specs.declared.Frame.{Frame}
use Rattle.std.specs.Prelude.{None, Some}
use Rattle.layer3.specs.Fields.{Field, left, right, fields_from, write_fields}
use Rattle.layer3.specs.Walk.{frame_at, walk, fields_of}
use Rattle.layer3.proofs.Walk.{walk-frame, walk-past}
use Rattle.layer3.specs.Sizes.{LongFrame}
use Rattle.layer3.proofs.Places.{granules}
use Rattle.sound_lists.specs.Lists.{put_first, behind}

-- ---- one field

-- a gain that was put is the field's
pub given-left : (o : ℕ) (fs : List Field) (ls ls' rs s s' : List ℕ) → s' ≡ put_first s o ls → ls' ≡ behind ls → write_fields fs ls' rs s' ≡ write_fields (left o ∷ fs) ls rs s
unfolding write_fields
given-left o fs [] ls' rs s s' e d = rw (e, d)
given-left o fs (g ∷ gs) ls' rs s s' e d = rw (e, d)

pub given-right : (o : ℕ) (fs : List Field) (ls rs rs' s s' : List ℕ) → s' ≡ put_first s o rs → rs' ≡ behind rs → write_fields fs ls rs' s' ≡ write_fields (right o ∷ fs) ls rs s
unfolding write_fields
given-right o fs ls [] rs' s s' e d = rw (e, d)
given-right o fs ls (g ∷ gs) rs' s s' e d = rw (e, d)

-- ---- one granule of a frame

pub long-some : (h : Frame) → LongFrame h → 24 ≤ h.size
long-some h l = go h.mpeg1 l
  where
    go : (f : Bool) → cond f 96 24 ≤ h.size → 24 ≤ h.size
    go true k = omega arith
    go false k = k

-- the gains of one granule put into its fields
module _ (k j bit next : ℕ) (mono : Bool) (more : k ≡ suc j) (ls ls' out out' : List ℕ) (one : out' ≡ put_first out bit ls) (one' : ls' ≡ behind ls) (fs : List Field) where
  pub given-one : mono ≡ true → (rs : List ℕ) → write_fields (granules j mono (bit + next) next ++ fs) ls' rs out' ≡ write_fields (granules k mono bit next ++ fs) ls rs out
  unfolding granules
  given-one e rs = rw (more, e) (given-left bit (granules j true (bit + next) next ++ fs) ls ls' rs out out' one one')

  pub given-two : mono ≡ false → (rs rs' new : List ℕ) → new ≡ put_first out' (bit + next) rs → rs' ≡ behind rs
      → write_fields (granules j mono (bit + next + next) next ++ fs) ls' rs' new ≡ write_fields (granules k mono bit next ++ fs) ls rs out
  unfolding granules
  given-two e rs rs' new two two' =
      let fs' = granules j false (bit + next + next) next ++ fs in
      rw (more, e) (given-right (bit + next) fs' ls' rs rs' out' new two two' ∙ given-left bit (right (bit + next) ∷ fs') ls ls' rs out out' one one')

-- ---- one step of the walk

module _ (s : List ℕ) (at : ℕ) (ls rs out : List ℕ) where
  pub put-past : frame_at s at ≡ None → (next : ℕ) → walk (length s) s next ≡ walk (length s) s (at + 1)
      → write_fields (fields_of (walk (length s) s next)) ls rs out ≡ write_fields (fields_of (walk (length s) s at)) ls rs out
  put-past e next n = rw (n, walk-past s at e)

  pub put-over : (h : Frame) → frame_at s at ≡ Some h → (ls' rs' new : List ℕ) (next : ℕ) → next ≡ at + h.size
      → ((fs : List Field) → write_fields fs ls' rs' new ≡ write_fields (fields_from (8 * at) h ++ fs) ls rs out)
      → write_fields (fields_of (walk (length s) s next)) ls' rs' new ≡ write_fields (fields_of (walk (length s) s at)) ls rs out
  unfolding fields_of
  put-over h e ls' rs' new next q w = rw (q, walk-frame s at h e) (w (fields_of (walk (length s) s (at + h.size))))
