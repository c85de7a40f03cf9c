-- The two loops of the pass: one that measures, and one that writes.
use Prim.Native.Nat.{ℕ, ◌+◌, ◌-◌, ◌≤◌}
use native.Mathlib.Nat.{zero-add}
use native.Mathlib.Omega.{arith}
use mathlib.Core.Path.{◌≡◌, refl, sym, ap, ◌∙◌}
use mathlib.Core.Bool.{Bool, true, false}
use Rattle.std.specs.Prelude.{Option, None, Some}
use mathlib.Core.List.{List, [], ◌∷◌, ◌++◌}
use lib.ListN.{length, get_or, set}
use Rattle.lists.specs.Bytes.{Small}
use Rattle.lists.specs.Choice.{is_some, provided}
use Rattle.lists.specs.Write.{over, splice, part}
use Rattle.lists.proofs.Wrote.{Wrote, start, next, from_start}
use Rattle.replies.specs.Limits.{file_limit}
use Rattle.items.specs.Items.{Item, area_bytes, size_of, parse, items_in, with_value}
use Rattle.items.proofs.Loops.{Turn}
use Rattle.area_edit.specs.Edits.{changed}
use Rattle.area_gains.specs.Gains.{set_each, gain_keys, marked, marks, present, gain_place, added, capped}
use Rattle.area_gains.proofs.Passing.{snoc-bytes, snoc-length, Passing, pass-begin, pass-room, pass-keep, pass-set, last-bytes, last-length, last-count, last-few, new-bytes}
use Rattle.area_gains.proofs.Rest.{more as bigger}

-- ---- the loop that measures

pub record Measuring (s : List ℕ) (count : ℕ) (vs : List (List ℕ)) (at left : ℕ) (m : List Bool) (size : ℕ) : Type 0 where
  pub done : List Item
  pub pass : Passing s count vs at left m done
  pub sized : size ≡ capped (length (area_bytes done))

pub measure-begin : (s : List ℕ) (count : ℕ) (vs : List (List ℕ)) (m : List Bool) → length vs ≡ 5 → m ≡ marks vs → is_some (parse count s) ≡ true → Measuring s count vs 0 count m 0
unfolding capped area_bytes
measure-begin s count vs m n e p = record { done = []; pass = pass-begin s count vs m n e p; sized = refl }

module _ {s : List ℕ} {count : ℕ} {vs : List (List ℕ)} {at left : ℕ} {m : List Bool} {size : ℕ} (x : Measuring s count vs at left m size) where
  pub measure-end : left ≡ 0 → (r : ℕ) → r ≡ capped (size + length (added gain_keys m vs)) → r ≡ capped (length (area_bytes (set_each (present vs) (items_in count s))))
  measure-end z r e = bigger (length (area_bytes x.done)) (length (added gain_keys m vs)) e x.sized ∙ ap capped (sym (last-length x.pass z))

  module _ {l a b c d : ℕ} (t : Turn s at left l a b c d) (more : left ≡ l + 1) {w : Option ℕ} (e : w ≡ provided (λ i. get_or m i false) (gain_place (part a b s))) where
    grows : (t' : Item) (n r : ℕ) → n ≡ size_of t' → r ≡ capped (size + n) → r ≡ capped (length (area_bytes (x.done ++ (t' ∷ []))))
    grows t' n r q f = bigger (length (area_bytes x.done)) n f x.sized ∙ ap capped (omega (arith, snoc-length x.done t'))

    pub measure-keep : w ≡ None → (r : ℕ) → r ≡ capped (size + (d - at)) → Measuring s count vs d l m r
    measure-keep f r g =
        record { done = x.done ++ (t.item ∷ []); pass = pass-keep x.pass t more e f; sized = grows t.item (d - at) r (omega (arith, t.end)) g }

    pub measure-set : (i : ℕ) → w ≡ Some i → (v : List ℕ) → v ≡ get_or vs i [] → (r : ℕ) → r ≡ capped (size + (c - at + length v)) → Measuring s count vs d l (set m i false) r
    measure-set i f v h r g =
        record {
          done = x.done ++ (with_value (get_or vs i []) t.item ∷ []);
          pass = pass-set x.pass t more e i f;
          sized = grows (with_value (get_or vs i []) t.item) (c - at + length v) r (omega (arith, t.value-start, t.key-end, ap length h)) g;
        }

-- ---- the loop that writes

pub record Writing (s : List ℕ) (count : ℕ) (vs : List (List ℕ)) (out₀ out : List ℕ) (at left : ℕ) (m : List Bool) (o : ℕ) : Type 0 where
  pub done : List Item
  pub pass : Passing s count vs at left m done
  pub wrote : Wrote out₀ 0 (area_bytes done) o out
  pub long : length out ≡ length out₀

pub write-begin : (s : List ℕ) (count : ℕ) (vs : List (List ℕ)) (m : List Bool) (out : List ℕ) → length vs ≡ 5 → m ≡ marks vs → is_some (parse count s) ≡ true → Writing s count vs out out 0 count m 0
unfolding area_bytes
write-begin s count vs m out n e p = record { done = []; pass = pass-begin s count vs m n e p; wrote = start out 0 (omega arith); long = refl }

module _ {s : List ℕ} {count : ℕ} {vs : List (List ℕ)} {out₀ out : List ℕ} {at left : ℕ} {m : List Bool} {o : ℕ} (x : Writing s count vs out₀ out at left m o) where
  module _ (z : left ≡ 0) where
    -- there is room for the rest
    pub rest-room : length (area_bytes (set_each (present vs) (items_in count s))) ≤ length out₀ → (count ≤ o) × (o + length (added gain_keys m vs) ≤ length out)
    rest-room h =
        let l = last-length x.pass z in
        (omega (arith, last-few x.pass z, x.wrote.ends), omega (arith, l, h, x.wrote.ends, x.long))

    pub rest-small : length (area_bytes (set_each (present vs) (items_in count s))) ≤ file_limit → length (added gain_keys m vs) ≤ file_limit
    rest-small h = omega (arith, last-length x.pass z, h)

    pub write-end : (n l : ℕ) (out' : List ℕ) → n ≡ count + length (marked gain_keys m vs) → l ≡ o + length (added gain_keys m vs) → out' ≡ splice out o (added gain_keys m vs)
        → (n ≡ length (set_each (present vs) (items_in count s))) × (l ≡ length (area_bytes (set_each (present vs) (items_in count s)))) × (out' ≡ over (area_bytes (set_each (present vs) (items_in count s))) out₀)
    write-end n l out' e f g =
        let w = next x.wrote (added gain_keys m vs) (f, g) in
        let b = last-bytes x.pass z in
        (e ∙ sym (last-count x.pass z), w.ends ∙ rw (zero-add, b), from_start w ∙ rw b)

  module _ {l a b c d : ℕ} (t : Turn s at left l a b c d) (more : left ≡ l + 1) {w : Option ℕ} (e : w ≡ provided (λ i. get_or m i false) (gain_place (part a b s))) where
    -- there is room for one more
    room : (t' : Item) {d' left' : ℕ} {m' : List Bool} → Passing s count vs d' left' m' (x.done ++ (t' ∷ [])) → (n : ℕ)
        → length (area_bytes (set_each (present vs) (items_in count s))) ≤ n → o + size_of t' ≤ n
    room t' q n h = omega (arith, pass-room q, snoc-length x.done t', h, x.wrote.ends)

    pub keep-room : w ≡ None → length (area_bytes (set_each (present vs) (items_in count s))) ≤ length out₀ → o + (d - at) ≤ length out
    keep-room f h = omega (arith, room t.item (pass-keep x.pass t more e f) (length out₀) h, t.end, x.long)

    pub write-keep : w ≡ None → Small s → (o' : ℕ) (out' : List ℕ) → length out' ≡ length out → (o' ≡ o + length (part at d s)) × (out' ≡ splice out o (part at d s))
        → Writing s count vs out₀ out' d l m o'
    write-keep f sm o' out' n q =
        record {
          done = x.done ++ (t.item ∷ []);
          pass = pass-keep x.pass t more e f;
          wrote = rw (snoc-bytes, ← t.bytes sm) (next x.wrote (part at d s) q);
          long = n ∙ x.long;
        }

    pub set_room : (i : ℕ) → w ≡ Some i → (v : List ℕ) → v ≡ get_or vs i [] → (n : ℕ) → length (area_bytes (set_each (present vs) (items_in count s))) ≤ n → o + (b + 1 - at) + length v ≤ n
    set_room i f v h n r =
        omega (arith, room (with_value (get_or vs i []) t.item) (pass-set x.pass t more e i f) n r, t.key-end, ap length h)

    pub write-set : (i : ℕ) → w ≡ Some i → Small s → (v : List ℕ) → v ≡ get_or vs i [] → (o' : ℕ) (out' : List ℕ) → length out' ≡ length out
        → (o' ≡ o + length (changed s at b v)) × (out' ≡ splice out o (changed s at b v)) → Writing s count vs out₀ out' d l (set m i false) o'
    write-set i f sm v h o' out' n q =
        record {
          done = x.done ++ (with_value (get_or vs i []) t.item ∷ []);
          pass = pass-set x.pass t more e i f;
          wrote = rw (snoc-bytes, ← h, ← new-bytes x.pass t sm v) (next x.wrote (changed s at b v) q);
          long = n ∙ x.long;
        }
