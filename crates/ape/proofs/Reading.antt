-- Laws of `read_items`: one step after another, and how long what is read can be.
use Prim.Native.Nat.{ℕ, zero, suc, ◌+◌, ◌-◌, ◌*◌, ◌≤◌, ◌<◌}
use native.Mathlib.Omega.{arith}
use Rattle.std.proofs.Common.{add-one}
use mathlib.Core.Path.{◌≡◌, refl, ap, ◌∙◌}
use mathlib.Core.Bool.{Bool, true, false, cond}
use Rattle.std.specs.Prelude.{Option, None, Some}
use mathlib.Core.List.{List, [], ◌∷◌}
use lib.ListN.{length, drop, length-drop}
use Rattle.lists.specs.Choice.{found}
use Rattle.lists.specs.Write.{part}
use Rattle.lossy.specs.Lossy.{lossy}
use Rattle.lossy.proofs.Sizes.{length-lossy}
use Rattle.items.specs.Items.{is_binary, text_item, Head, head, area_bytes, size_of}
use Rattle.items.specs.Answers.{step_of}
use Rattle.items.specs.declared.Stepped.{Stepped}
use Rattle.items.specs.declared.Stepped.TheVariants.{Item as ItemAt}
use Rattle.items.proofs.Area.{whole, length-area}
use Rattle.items.proofs.Walk.{taken, stopped, key-part}
use Rattle.items.proofs.Loops.{value-part}
use Rattle.ape.specs.Tag.{read_value, converted, read_items}

read-stop : (n : ℕ) (s : List ℕ) → head s ≡ None → read_items n s ≡ []
unfolding read_items
read-stop zero s e = refl
read-stop (suc n) s e = rw e

read-go : (n m : ℕ) (s : List ℕ) (h : Head) → n ≡ m + 1 → head s ≡ Some h
    → read_items n s ≡ converted h.item.flags h.item.key h.item.value ∷ read_items m h.rest
unfolding read_items
read-go n m s h l e = rw (l, add-one m, e)

pub read_none : (s : List ℕ) → read_items 0 s ≡ []
unfolding read_items
read_none s = refl

-- an item was found at a place: it is the first that is read there
pub record Turn (s : List ℕ) (at left m g a b c d : ℕ) : Type 0 where
  pub list : read_items left (drop at s) ≡ converted g (part a b s) (part c d s) ∷ read_items m (drop d s)
  pub key-order : a ≤ b
  pub value-order : c ≤ d
  pub key-within : b ≤ length s
  pub within : d ≤ length s
  pub value-long : d - c ≤ length s

module _ (s : List ℕ) (at left : ℕ) where
  pub turn : (m : ℕ) {g a b c d : ℕ} → left ≡ m + 1 → ItemAt g a b c d ≡ step_of s at → Turn s at left m g a b c d
  turn m {g} {a} {b} {c} {d} more e =
      let t = taken s at g a b c d e in
      record {
        list = read-go left m (drop at s) t.head more t.is ∙ rw (t.after, ← key-part t, ← value-part t, ← t.flags);
        key-order = omega (arith, t.key-start, t.key-end);
        value-order = omega (arith, t.value-start, t.value-end);
        key-within = omega (arith, t.key-end, t.value-end, t.within);
        within = t.within;
        value-long = omega (arith, t.within);
      }

  -- no item was found: nothing more is read
  pub ended : (r : Stepped) → r ≡ step_of s at → ((g a b c d : ℕ) → r ≡ ItemAt g a b c d → ⊥) → read_items left (drop at s) ≡ []
  ended r e n = read-stop left (drop at s) (stopped s at r e n)

-- a value by its type
pub binary-value : (flags : ℕ) (value : List ℕ) → is_binary flags ≡ true → read_value flags value ≡ value
unfolding read_value
binary-value flags value e = rw e

pub text-value : (flags : ℕ) (value : List ℕ) → is_binary flags ≡ false → read_value flags value ≡ lossy value
unfolding read_value
text-value flags value e = rw e

-- with flags zero both texts are converted, and flags are zero again: what the published Rust reads
pub plain-read : (key value : List ℕ) → converted 0 key value ≡ text_item (lossy key) (lossy value)
unfolding read_value
plain-read key value = refl

-- a value that is read is at most three times as long as the bytes that it was read from
pub length-value : (flags : ℕ) (value : List ℕ) → length (read_value flags value) ≤ 3 * length value
unfolding read_value
length-value flags value = go (is_binary flags)
  where
    go : (b : Bool) → length (cond b value (lossy value)) ≤ 3 * length value
    go true = omega arith
    go false = omega (arith, length-lossy value)

-- and so is an area
pub read-long : (n : ℕ) (s : List ℕ) → length (area_bytes (read_items n s)) ≤ 3 * length s
unfolding read_items area_bytes
read-long zero s = omega arith
read-long (suc n) s = go (head s) refl (λ r. read-long n r)
  where
    go : (o : Option Head) → head s ≡ o → ((r : List ℕ) → length (area_bytes (read_items n r)) ≤ 3 * length r)
        → length (area_bytes (found o [] (λ h. converted h.item.flags h.item.key h.item.value ∷ read_items n h.rest))) ≤ 3 * length s
    go None e ih = omega arith
    go (Some h) e ih =
        let w = whole s h e in
        let r : length h.rest ≡ length s - size_of h.item = ap length w.after ∙ length-drop (size_of h.item) s in
        rw length-area (omega (arith, ih h.rest, w.long, length-lossy h.item.key, length-value h.item.flags h.item.value))
