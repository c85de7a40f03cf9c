-- Laws of gains that are moved where they stand: those of one frame, and one step of the walk.
use Prim.Native.Nat.{ℕ, suc, ◌+◌, ◌*◌}
use mathlib.Core.Path.{◌≡◌, sym}
use mathlib.Core.Bool.{Bool, true, false}
use mathlib.Core.List.{List}
use lib.ListN.{length}
use Rattle.layer3.specs.declared.Frame.{Frame}
use Rattle.std.specs.Prelude.{None, Some}
use Rattle.layer3.specs.Bits.{read_bits, write_bits}
use Rattle.layer3.specs.Fields.{fields_from, moved_by}
use Rattle.layer3.specs.Walk.{frame_at, walk, fields_of}
use Rattle.layer3.proofs.Fields.{moved-append}
use Rattle.layer3.proofs.Walk.{walk-frame, walk-past}
use Rattle.layer3.proofs.Places.{granules}

-- ---- one granule of a frame

-- one field moved
abbrev pub step_by : (ℕ → ℕ) → ℕ → List ℕ → List ℕ
step_by f o s = write_bits s o (f (read_bits s o))

module _ (k j bit next : ℕ) (mono : Bool) (more : k ≡ suc j) (f g : ℕ → ℕ) (s : List ℕ) where
  pub move-one : mono ≡ true → moved_by f g (granules j mono (bit + next) next) (step_by f bit s) ≡ moved_by f g (granules k mono bit next) s
  unfolding granules moved_by
  move-one e = rw (more, e)

  pub move-two : mono ≡ false
      → moved_by f g (granules j mono (bit + next + next) next) (step_by g (bit + next) (step_by f bit s)) ≡ moved_by f g (granules k mono bit next) s
  unfolding granules moved_by
  move-two e = rw (more, e)

-- ---- one step of the walk

module _ (s : List ℕ) (at : ℕ) (f g : ℕ → ℕ) (out : List ℕ) where
  pub move-past : frame_at s at ≡ None → (next : ℕ) → walk (length s) s next ≡ walk (length s) s (at + 1)
      → moved_by f g (fields_of (walk (length s) s next)) out ≡ moved_by f g (fields_of (walk (length s) s at)) out
  move-past e next n = rw (n, walk-past s at e)

  pub move-over : (h : Frame) → frame_at s at ≡ Some h → (new : List ℕ) → new ≡ moved_by f g (fields_from (8 * at) h) out
      → moved_by f g (fields_of (walk (length s) s (at + h.size))) new ≡ moved_by f g (fields_of (walk (length s) s at)) out
  unfolding fields_of
  move-over h e new n = rw (walk-frame s at h e, n) (sym (moved-append f g (fields_from (8 * at) h) (fields_of (walk (length s) s (at + h.size))) out))
