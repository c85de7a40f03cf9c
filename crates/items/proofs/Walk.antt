-- The step over an area, at a place.
use Prim.Native.Nat.{ℕ, ◌+◌, ◌-◌, ◌≤◌, ◌<◌}
use native.Mathlib.Omega.{arith}
use native.Mathlib.Nat.{add-zero}
use mathlib.Core.Path.{◌≡◌, refl, sym, ap, ◌∙◌}
use mathlib.Core.Bool.{Bool, true, false}
use Rattle.std.specs.Prelude.{Option, None, Some, option_map}
use mathlib.Core.List.{List, ◌∷◌}
use lib.ListN.{length, take, drop, length-drop}
use lib.Seq.{drop-drop, get_or-drop}
use lib.Dec.{leb}
use borrow.Author.Tests.{le-leb, lt-leb, leb-true, leb-false}
use Rattle.lists.specs.Bytes.{place_of}
use Rattle.lists.specs.Choice.{is_some}
use Rattle.lists.specs.Le.{read_u32}
use Rattle.lists.proofs.Numbers.{read-drop}
use Rattle.items.specs.Items.{size_of, Head, head as head_of, parse}
use Rattle.items.specs.Answers.{places_of, step_of}
use Rattle.items.specs.declared.Stepped.{Stepped}
use Rattle.items.specs.declared.Stepped.TheVariants.{Item as ItemAt, Malformed, End}
use Rattle.items.proofs.Area.{Whole, Front, front, head-front, head-unfit, whole, parse-go, map-some}

-- ---- by the code's numbers

places : (at : ℕ) (h : Head) (g k n : ℕ) → h.item.flags ≡ g → length h.item.key ≡ k → length h.item.value ≡ n
    → places_of at h ≡ ItemAt g (at + 8) (at + 8 + k) (at + 8 + k + 1) (at + 8 + k + 1 + n)
places at h g k n d e f =
    let s : at + size_of h.item ≡ at + 8 + k + 1 + n = omega arith in
    cc

module _ (s : List ℕ) (at : ℕ) where
  -- where the key ends that begins 8 bytes behind at
  abbrev pub key_end : ℕ
  key_end = at + 8 + place_of 0 (drop (at + 8) s)

  key-at : at + 8 + place_of 0 (drop 8 (drop at s)) ≡ key_end
  key-at = rw drop-drop

  size-at : read_u32 (drop at s) 0 ≡ read_u32 s at
  size-at = simp (get_or-drop, add-zero)

  pub step_end : length s ≤ at → step_of s at ≡ End
  step_end h = rw (le-leb _ _ h)

  pub step_cut : at < length s → (key_end + 1 + read_u32 s at ≤ length s → ⊥) → step_of s at ≡ Malformed
  step_cut h f =
      let no : Front (drop at s) → ⊥ = λ w. f (omega (arith, key-at, size-at, w, length-drop at s)) in
      rw (lt-leb _ _ h, head-unfit (drop at s) no)

  pub step-item : at < length s → key_end + 1 + read_u32 s at ≤ length s
      → step_of s at ≡ ItemAt (read_u32 s (at + 4)) (at + 8) key_end (key_end + 1) (key_end + 1 + read_u32 s at)
  step-item h f =
      let fit : Front (drop at s) = omega (arith, key-at, size-at, length-drop at s) in
      let e : head_of (drop at s) ≡ Some (front (drop at s)) = head-front (drop at s) fit in
      let w = whole (drop at s) (front (drop at s)) e in
      let kl : length (front (drop at s)).item.key ≡ place_of 0 (drop (at + 8) s) = w.key-long ∙ rw drop-drop in
      let vl : length (front (drop at s)).item.value ≡ read_u32 s at = w.value-long ∙ size-at in
      rw (lt-leb _ _ h, e) (places at (front (drop at s)) _ _ _ (w.flags-are ∙ read-drop s at 4) kl vl)

-- ---- by what a step found

-- a step that found an item
pub record Taken (s : List ℕ) (at g a b c d : ℕ) : Type 0 where
  pub head : Head
  pub is : head_of (drop at s) ≡ Some head
  pub whole : Whole (drop at s) head
  pub flags : g ≡ head.item.flags
  pub key-start : a ≡ at + 8
  pub key-end : b ≡ at + 8 + length head.item.key
  pub value-start : c ≡ at + 8 + length head.item.key + 1
  pub value-end : d ≡ at + size_of head.item
  pub within : d ≤ length s
  pub after : head.rest ≡ drop d s

module _ (s : List ℕ) (at : ℕ) where
  found_at : (h : Head) → at < length s → head_of (drop at s) ≡ Some h → step_of s at ≡ places_of at h
  found_at h l e = rw (lt-leb _ _ l, e)

  nothing-at : at < length s → head_of (drop at s) ≡ None → step_of s at ≡ Malformed
  nothing-at l e = rw (lt-leb _ _ l, e)

  pub beyond : length s ≤ at → head_of (drop at s) ≡ None
  beyond l = go (head_of (drop at s)) refl
    where
      go : (o : Option Head) → head_of (drop at s) ≡ o → head_of (drop at s) ≡ None
      go None e = e
      go (Some h) e =
          let w = whole (drop at s) h e in
          absurd (omega (arith, w.long, length-drop at s))

  pub taken : (g a b c d : ℕ) → ItemAt g a b c d ≡ step_of s at → Taken s at g a b c d
  taken g a b c d e = go (leb (length s) at) (head_of (drop at s)) refl refl
    where
      go : (t : Bool) (o : Option Head) → leb (length s) at ≡ t → head_of (drop at s) ≡ o → Taken s at g a b c d
      go true o p q =
          let y : step_of s at ≡ End = step_end s at (leb-true _ _ p) in
          absurd (let z : ◌≡◌ {A = ℕ} 0 1 = cc in omega arith)
      go false None p q =
          let y : step_of s at ≡ Malformed = nothing-at (leb-false _ _ p) q in
          absurd (let z : ◌≡◌ {A = ℕ} 0 1 = cc in omega arith)
      go false (Some h) p q =
          let y : ItemAt g a b c d ≡ places_of at h = e ∙ found_at h (leb-false _ _ p) q in
          let w = whole (drop at s) h q in
          let l : length (drop at s) ≡ length s - at = length-drop at s in
          let less : at < length s = leb-false _ _ p in
          let last : d ≡ at + size_of h.item = cc in
          record {
            head = h;
            is = q;
            whole = w;
            flags = cc;
            key-start = cc;
            key-end = cc;
            value-start = cc;
            value-end = last;
            within = omega arith;
            after = w.after ∙ drop-drop (size_of h.item) at s ∙ ap (λ (i : ℕ). drop i s) (sym last);
          }

  -- a step that found none
  pub stopped : (r : Stepped) → r ≡ step_of s at → ((g a b c d : ℕ) → r ≡ ItemAt g a b c d → ⊥) → head_of (drop at s) ≡ None
  stopped r e n = go (leb (length s) at) (head_of (drop at s)) refl refl
    where
      go : (t : Bool) (o : Option Head) → leb (length s) at ≡ t → head_of (drop at s) ≡ o → head_of (drop at s) ≡ None
      go true o p q = beyond (leb-true _ _ p)
      go false None p q = q
      go false (Some h) p q = absurd (n _ _ _ _ _ (e ∙ found_at h (leb-false _ _ p) q))

-- ---- one item fewer is left

module _ {s : List ℕ} {at g a b c d : ℕ} (n m : ℕ) (t : Taken s at g a b c d) (more : n ≡ m + 1) where
  pub fewer : parse n (drop at s) ≡ option_map (λ ts. t.head.item ∷ ts) (parse m (drop d s))
  fewer = parse-go n m (drop at s) t.head more t.is ∙ rw t.after

  pub fewer-some : is_some (parse n (drop at s)) ≡ is_some (parse m (drop d s))
  fewer-some = ap is_some fewer ∙ map-some (λ ts. t.head.item ∷ ts) (parse m (drop d s))

-- the key, as the code takes it
pub key-part : {s : List ℕ} {at g a b c d : ℕ} (t : Taken s at g a b c d) → take (b - a) (drop a s) ≡ t.head.item.key
key-part {s} {at} {g} {a} {b} t =
    let k = t.head.item.key in
    let m : b - a ≡ length k = omega (arith, t.key-start, t.key-end) in
    ap (λ (i : ℕ). take i (drop a s)) m
    ∙ ap (λ (i : ℕ). take (length k) (drop i s)) t.key-start
    ∙ ap (λ (l : List ℕ). take (length k) l) (sym (drop-drop 8 at s))
    ∙ sym t.whole.key-is
