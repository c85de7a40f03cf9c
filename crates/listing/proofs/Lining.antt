-- Laws of the lines of items: how long they are, and the loop that writes them.
use Prim.Native.Nat.{ℕ, ◌+◌, ◌-◌, ◌*◌, ◌≤◌}
use native.Mathlib.Omega.{arith}
use mathlib.Core.Path.{◌≡◌, refl, sym, ap, ◌∙◌}
use mathlib.Core.Bool.{true, false}
use mathlib.Core.List.{List, [], ◌++◌, append_assoc, append-nil}
use lib.ListN.{length, drop, length-append}
use Rattle.lists.specs.Choice.{is_some}
use Rattle.lists.specs.Write.{splice, part}
use Rattle.lists.proofs.Wrote.{Wrote, start, next, done}
use Rattle.items.specs.Items.{Item, parse, items_in}
use Rattle.items.proofs.Loops.{Left, begin, Turn, items-none}
use Rattle.listing.specs.Listing.{line, lines}
use Rattle.listing.proofs.Printing.{all_short}

pub line-short : (key value : List ℕ) → length (line key value) ≤ 3 * length key + 3 * length value + 2
unfolding line
line-short key value = simp length-append (omega (arith, all_short true key, all_short false value))

-- done is written, and the lines of the `left` items from `from` to the end are to come
pub record Lining (s : List ℕ) (count : ℕ) (out₀ : List ℕ) (at : ℕ) (out : List ℕ) (from left o : ℕ) : Type 0 where
  pub todo : Left s from left
  pub done : List ℕ
  pub same : lines (items_in count s) ≡ done ++ lines (items_in left (drop from s))
  pub wrote : Wrote out₀ at done o out
  pub long : length out ≡ length out₀
  pub room : o + 3 * (length s - from) ≤ length out₀

pub line-begin : (s : List ℕ) (count : ℕ) (out : List ℕ) (at : ℕ) → is_some (parse count s) ≡ true → at + 3 * length s ≤ length out → (left : ℕ) → left ≡ count → Lining s count out at out 0 left at
line-begin s count out at e h left all =
    record { todo = rw all (begin s count e); done = []; same = rw all refl; wrote = start out at (omega arith); long = refl; room = omega arith }

module _ {s : List ℕ} {count : ℕ} {out₀ out : List ℕ} {at from left m o a b c d : ℕ} (x : Lining s count out₀ at out from left o) (t : Turn s from left m a b c d) where
  -- there is room for one more line
  pub line-room : o + (3 * length (part a b s) + 3 * length (part c d s) + 2) ≤ length out
  line-room = rw (t.key, t.value) (omega (arith, x.room, x.long, t.end, t.rest.within))

  more_same : lines (items_in count s) ≡ (x.done ++ line t.item.key t.item.value) ++ lines (items_in m (drop d s))
  unfolding lines
  more_same =
      x.same
      ∙ ap (λ (ts : List Item). x.done ++ lines ts) t.list
      ∙ sym (append_assoc x.done (line t.item.key t.item.value) (lines (items_in m (drop d s))))

  pub line-more : (o' : ℕ) (out' : List ℕ) → length out' ≡ length out
      → (o' ≡ o + length (line (part a b s) (part c d s))) × (out' ≡ splice out o (line (part a b s) (part c d s)))
      → Lining s count out₀ at out' d m o'
  line-more o' out' l h =
      let e = rw (t.key, t.value) at h in
      record {
        todo = t.rest;
        done = x.done ++ line t.item.key t.item.value;
        same = more_same;
        wrote = next x.wrote (line t.item.key t.item.value) e;
        long = l ∙ x.long;
        room = omega (arith, x.room, e.0, line-short t.item.key t.item.value, t.end, t.rest.within);
      }

pub line-end : {s : List ℕ} {count : ℕ} {out₀ out : List ℕ} {at from left o : ℕ} (x : Lining s count out₀ at out from left o) → left ≡ 0
    → (o ≡ at + length (lines (items_in count s))) × (out ≡ splice out₀ at (lines (items_in count s)))
unfolding lines
line-end {s} {count} {out₀} {out} {at} {from} {left} {o} x z =
    let n : items_in left (drop from s) ≡ [] = ap (λ (m : ℕ). items_in m (drop from s)) z ∙ items-none (drop from s) in
    let k : lines (items_in count s) ≡ x.done = x.same ∙ ap (λ (ts : List Item). x.done ++ lines ts) n ∙ append-nil x.done in
    rw k (done x.wrote)
