-- A loop that writes the items that are read, one after another.
use Prim.Native.Nat.{ℕ, ◌+◌, ◌-◌, ◌≤◌}
use native.Mathlib.Omega.{arith}
use native.Mathlib.Nat.{zero-add}
use mathlib.Core.Path.{◌≡◌, refl, ◌∙◌}
use mathlib.Core.List.{List, [], ◌∷◌, ◌++◌, append_assoc, append-nil}
use lib.ListN.{length, drop, length-append}
use Rattle.lists.specs.Write.{over, splice, part}
use Rattle.lists.proofs.Wrote.{Wrote, start, next, from_start}
use Rattle.items.specs.Items.{Item, item_bytes, area_bytes}
use Rattle.items.proofs.Area.{area-append, length-item}
use Rattle.ape.specs.Tag.{converted, read_items}
use Rattle.ape.proofs.Reading.{Turn}

-- n items are written, up to o; `left` more may be read from `at`
pub record Progress (s : List ℕ) (count : ℕ) (out₀ : List ℕ) (at left n o : ℕ) (out : List ℕ) : Type 0 where
  pub written : List Item
  pub list : read_items count s ≡ written ++ read_items left (drop at s)
  pub counted : n ≡ length written
  pub few : n ≤ o
  pub wrote : Wrote out₀ 0 (area_bytes written) o out

pub begin : (s : List ℕ) (count : ℕ) (out : List ℕ) (left : ℕ) → left ≡ count → Progress s count out 0 left 0 0 out
unfolding area_bytes
begin s count out left all = record { written = []; list = rw all refl; counted = refl; few = omega arith; wrote = start out 0 (omega arith) }

one : (ts : List Item) (t : Item) → area_bytes (ts ++ (t ∷ [])) ≡ area_bytes ts ++ item_bytes t
unfolding area_bytes
one ts t = area-append ts (t ∷ []) ∙ rw append-nil

module _ {s : List ℕ} {count : ℕ} {out₀ : List ℕ} {at left n o : ℕ} {out : List ℕ} (p : Progress s count out₀ at left n o out) where
  -- there is room for the next item
  pub fits : {m g a b c d : ℕ} → Turn s at left m g a b c d → length (area_bytes (read_items count s)) ≤ length out₀
      → o + length (item_bytes (converted g (part a b s) (part c d s))) ≤ length out₀
  unfolding area_bytes
  fits {m} {g} {a} {b} {c} {d} t h =
      let x = converted g (part a b s) (part c d s) in
      let e : length (area_bytes (read_items count s)) ≡ length (area_bytes p.written) + (length (item_bytes x) + length (area_bytes (read_items m (drop d s)))) =
      rw (p.list, t.list, area-append, length-append, length-append) in
      omega (arith, e, p.wrote.ends)

  -- and then it is written
  pub turned : {m g a b c d r : ℕ} {ys : List ℕ} → Turn s at left m g a b c d
      → let w = item_bytes (converted g (part a b s) (part c d s)) in (r ≡ o + length w) × (ys ≡ splice out o w)
      → Progress s count out₀ d m (n + 1) r ys
  turned {m} {g} {a} {b} {c} {d} {r} {ys} t e =
      let x = converted g (part a b s) (part c d s) in
      record {
        written = p.written ++ (x ∷ []);
        list = p.list ∙ rw t.list (simp append_assoc);
        counted = simp length-append (omega (arith, p.counted));
        few = omega (arith, p.few, e.0, length-item x);
        wrote = rw one (next p.wrote (item_bytes x) e);
      }

  -- nothing is left to be read
  pub finished : read_items left (drop at s) ≡ []
      → (n ≡ length (read_items count s)) × (o ≡ length (area_bytes (read_items count s))) × (out ≡ over (area_bytes (read_items count s)) out₀)
  finished e =
      let l : read_items count s ≡ p.written = p.list ∙ rw (e, append-nil) in
      rw l (p.counted, p.wrote.ends ∙ zero-add _, from_start p.wrote)
