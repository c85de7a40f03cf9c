-- Laws of the walk: one step, where its fields stand, and that it looks at no byte of a gain field.
use Prim.Native.Nat.{ℕ, zero, suc, ◌+◌, ◌*◌, ◌≤◌, ◌<◌}
use native.Mathlib.Omega.{arith}
use mathlib.Core.Path.{◌≡◌, refl, sym, ap, ◌∙◌}
use mathlib.Core.Bool.{Bool, true, false, cond}
use mathlib.Core.List.{List, [], ◌∷◌, ◌++◌}
use lib.ListN.{length, get_or}
use lib.Dec.{leb}
use borrow.Author.Tests.{leb-true}
use Rattle.lists.specs.Choice.{found, provided}
use Rattle.layer3.specs.declared.Frame.{Frame}
use Rattle.std.specs.Prelude.{Option, None, Some}
use Rattle.layer3.specs.Fields.{Field, fields_from}
use Rattle.layer3.specs.Walk.{header_at, frame_at, Placed, walk, fields_of}
use Rattle.layer3.proofs.Fields.{Outside, Spread, none, spread-from, spread-append, outside-before, outside_behind, outside-append}
use Rattle.layer3.proofs.Lengths.{Long, least_size, header-long, fields-spread}

-- ---- one step

-- what a frame that counts owes
pub record Counts (s : List ℕ) (at : ℕ) (h : Frame) : Type 0 where
  pub long : Long h
  pub some : 24 ≤ h.size
  pub ends : at + h.size ≤ length s

long-some : (h : Frame) → Long h → 24 ≤ h.size
long-some h l = go h.mpeg1 l.least
  where
    go : (f : Bool) → least_size f ≤ h.size → 24 ≤ h.size
    go true q = omega arith
    go false q = omega arith

pub counts : (s : List ℕ) (at : ℕ) (h : Frame) → frame_at s at ≡ Some h → Counts s at h
unfolding frame_at
counts s at h e = go (header_at s at) refl e
  where
    ends : (x : Frame) → header_at s at ≡ Some x → (t : Bool) → leb (at + x.size) (length s) ≡ t → cond t (Some x) None ≡ Some h → Counts s at h
    ends x q true r e =
        let g : x ≡ h = cc in
        let l : Long h = rw (← g) (header-long _ _ _ _ x q) in
        record { long = l; some = long-some h l; ends = rw (← g) (leb-true _ _ r) }
    ends x q false r e = absurd (let z : ◌≡◌ {A = ℕ} 0 1 = cc in omega arith)

    go : (y : Option Frame) → header_at s at ≡ y → provided (λ h. leb (at + h.size) (length s)) y ≡ Some h → Counts s at h
    go None q e = absurd (let z : ◌≡◌ {A = ℕ} 0 1 = cc in omega arith)
    go (Some x) q e = ends x q (leb (at + x.size) (length s)) refl e

-- past the end no frame counts
pub none-past : (s : List ℕ) (at : ℕ) → length s ≤ at → frame_at s at ≡ None
none-past s at l = go (frame_at s at) refl
  where
    go : (y : Option Frame) → frame_at s at ≡ y → frame_at s at ≡ None
    go None q = q
    go (Some h) q = let c = counts s at h q in absurd (omega arith)

-- ---- steps that are enough

-- a walk that has as many steps as bytes are left finds no more with more
pub walk-enough : (n m : ℕ) (s : List ℕ) (at : ℕ) → length s ≤ n + at → length s ≤ m + at → walk n s at ≡ walk m s at
unfolding walk
walk-enough zero zero s at h l = refl
walk-enough zero (suc m) s at h l = rw (none-past s at (omega arith)) (walk-enough zero m s (at + 1) (omega arith) (omega arith))
walk-enough (suc n) zero s at h l = rw (none-past s at (omega arith)) (walk-enough n zero s (at + 1) (omega arith) (omega arith))
walk-enough (suc n) (suc m) s at h l = go (frame_at s at) refl (λ k. walk-enough n m s k)
  where
    go : (y : Option Frame) → frame_at s at ≡ y → ((k : ℕ) → length s ≤ n + k → length s ≤ m + k → walk n s k ≡ walk m s k)
        → found (frame_at s at) (walk n s (at + 1)) (λ h. record { at = at; frame = h } ∷ walk n s (at + h.size))
        ≡ found (frame_at s at) (walk m s (at + 1)) (λ h. record { at = at; frame = h } ∷ walk m s (at + h.size))
    go None q ih = rw q (ih (at + 1) (omega arith) (omega arith))
    go (Some x) q ih =
        let c = counts s at x q in
        rw q (ap (λ (fs : List Placed). record { at = at; frame = x } ∷ fs) (ih (at + x.size) (omega arith) (omega arith)))

-- the frames from a place on
abbrev pub walk_from : List ℕ → ℕ → List Placed
walk_from s at = walk (length s) s at

-- at the end there is none
pub walk_end : (s : List ℕ) (at : ℕ) → length s ≤ at → walk_from s at ≡ []
unfolding walk
walk_end s at h = walk-enough (length s) zero s at (omega arith) (omega arith)

-- one more step is not needed
walk_more : (s : List ℕ) (at : ℕ) → walk_from s at ≡ walk (suc (length s)) s at
walk_more s at = walk-enough (length s) (suc (length s)) s at (omega arith) (omega arith)

-- over a frame
pub walk-frame : (s : List ℕ) (at : ℕ) (h : Frame) → frame_at s at ≡ Some h → walk_from s at ≡ record { at = at; frame = h } ∷ walk_from s (at + h.size)
unfolding walk
walk-frame s at h e = walk_more s at ∙ rw e

-- past a byte
pub walk-past : (s : List ℕ) (at : ℕ) → frame_at s at ≡ None → walk_from s at ≡ walk_from s (at + 1)
unfolding walk
walk-past s at e = walk_more s at ∙ rw e

-- past bytes that begin no frame
pub walk-on : (s : List ℕ) (at : ℕ) → frame_at s at ≡ None → (next : ℕ) → walk_from s next ≡ walk_from s (at + 1) → walk_from s next ≡ walk_from s at
walk-on s at e next n = n ∙ sym (walk-past s at e)

-- ---- where the fields stand

pub walk-spread : (n : ℕ) (s : List ℕ) (at : ℕ) → Spread (at + 4) (length s) (fields_of (walk n s at))
unfolding walk fields_of
walk-spread zero s at = none
walk-spread (suc n) s at = go (frame_at s at) refl (λ k. walk-spread n s k)
  where
    go : (y : Option Frame) → frame_at s at ≡ y → ((k : ℕ) → Spread (k + 4) (length s) (fields_of (walk n s k)))
        → Spread (at + 4) (length s) (fields_of (found (frame_at s at) (walk n s (at + 1)) (λ h. record { at = at; frame = h } ∷ walk n s (at + h.size))))
    go None q ih = rw q (spread-from (fields_of (walk n s (at + 1))) (omega arith) (ih (at + 1)))
    go (Some x) q ih =
        let c = counts s at x q in
        let rest = fields_of (walk n s (at + x.size)) in
        rw q (spread-append (fields_from (8 * at) x) rest (omega arith) c.ends (fields-spread at x c.long) (spread-from rest (omega arith) (ih (at + x.size))))

-- ---- what the walk looks at

-- t has the bytes of s from a place on, but for those of these fields
pub record Alike (s t : List ℕ) (at : ℕ) (fs : List Field) : Type 0 where
  pub long : length t ≡ length s
  pub same : (i : ℕ) → at ≤ i → Outside i fs → get_or t i 0 ≡ get_or s i 0

-- the header at a place before all fields
alike-frame : (s t : List ℕ) (at e : ℕ) (fs : List Field) → Alike s t at fs → Spread (at + 4) e fs → frame_at t at ≡ frame_at s at
unfolding frame_at
alike-frame s t at e fs a p =
    let here : (i : ℕ) → at ≤ i → i < at + 4 → get_or t i 0 ≡ get_or s i 0 = λ i h l. a.same i h (outside-before i fs l p) in
    rw (here at (omega arith) (omega arith), here (at + 1) (omega arith) (omega arith), here (at + 2) (omega arith) (omega arith), here (at + 3) (omega arith) (omega arith), a.long)

-- THE law: what stands in the gain fields does not matter to the walk
pub walk-alike : (n : ℕ) (s t : List ℕ) (at : ℕ) → Alike s t at (fields_of (walk n s at)) → walk n t at ≡ walk n s at
unfolding walk fields_of
walk-alike zero s t at a = refl
walk-alike (suc n) s t at a = go (frame_at s at) refl (λ k. walk-alike n s t k)
  where
    here : frame_at t at ≡ frame_at s at
    here = alike-frame s t at (length s) (fields_of (walk (suc n) s at)) a (walk-spread (suc n) s at)

    go : (y : Option Frame) → frame_at s at ≡ y → ((k : ℕ) → Alike s t k (fields_of (walk n s k)) → walk n t k ≡ walk n s k)
        → found (frame_at t at) (walk n t (at + 1)) (λ h. record { at = at; frame = h } ∷ walk n t (at + h.size))
        ≡ found (frame_at s at) (walk n s (at + 1)) (λ h. record { at = at; frame = h } ∷ walk n s (at + h.size))
    go None q ih =
        let b : Alike s t at (fields_of (walk n s (at + 1))) = rw q at a in
        rw (here, q) (ih (at + 1) (record { long = b.long; same = λ i h p. b.same i (omega arith) p }))
    go (Some x) q ih =
        let c = counts s at x q in
        let own = fields_from (8 * at) x in
        let b : Alike s t at (own ++ fields_of (walk n s (at + x.size))) = rw q at a in
        let rest : Alike s t (at + x.size) (fields_of (walk n s (at + x.size)))
        = record { long = b.long; same = λ i h p. b.same i (omega arith) (outside-append i own _ (outside_behind i own h (fields-spread at x c.long)) p) } in
        rw (here, q) (ap (λ (fs : List Placed). record { at = at; frame = x } ∷ fs) (ih (at + x.size) rest))
