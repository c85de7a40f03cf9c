-- Loops over the items of a well-formed area.
use Prim.Native.Nat.{ℕ, ◌+◌, ◌-◌, ◌≤◌, ◌<◌}
use native.Mathlib.Omega.{arith}
use mathlib.Core.Path.{◌≡◌, refl, sym, ap, ◌∙◌}
use mathlib.Core.Bool.{true, true≢false}
use Rattle.std.specs.Prelude.{Option, None, Some, option_map}
use mathlib.Core.List.{List, [], ◌∷◌}
use lib.ListN.{length, take, drop}
use lib.Seq.{drop-drop, take_at}
use Rattle.lists.specs.Bytes.{Small}
use Rattle.lists.specs.Choice.{found, is_some}
use Rattle.lists.specs.Write.{part}
use Rattle.lists.proofs.Places.{small-drop}
use Rattle.items.specs.Items.{Item, item_bytes, size_of, parse, items_in}
use Rattle.items.specs.Answers.{step_of}
use Rattle.items.specs.declared.Stepped.{Stepped}
use Rattle.items.specs.declared.Stepped.TheVariants.{Item as ItemAt}
use Rattle.items.proofs.Area.{head_bytes, length-item, parse-stop}
use Rattle.items.proofs.Walk.{Taken, taken, stopped, fewer, fewer-some, key-part}

-- `left` items stand from `at` to the end
pub record Left (s : List ℕ) (at left : ℕ) : Type 0 where
  pub within : at ≤ length s
  pub some : is_some (parse left (drop at s)) ≡ true

pub begin : (s : List ℕ) (count : ℕ) → is_some (parse count s) ≡ true → Left s 0 count
begin s count e = record { within = omega arith; some = e }

-- the first of them, and the places that the step answered
pub record Turn (s : List ℕ) (at left m a b c d : ℕ) : Type 0 where
  pub item : Item
  pub list : items_in left (drop at s) ≡ item ∷ items_in m (drop d s)
  pub rest : Left s d m
  pub key-start : a ≡ at + 8
  pub key-end : b ≡ at + 8 + length item.key
  pub value-start : c ≡ b + 1
  pub end : d ≡ at + size_of item
  pub key : part a b s ≡ item.key
  pub value : part c d s ≡ item.value
  pub bytes : Small s → part at d s ≡ item_bytes item

opened : (x : Item) (o : Option (List Item)) → is_some (option_map (λ ts. x ∷ ts) o) ≡ true
    → found (option_map (λ ts. x ∷ ts) o) [] (λ ts. ts) ≡ x ∷ found o [] (λ ts. ts)
opened x None e = absurd (true≢false (sym e))
opened x (Some ts) e = refl

-- the value, as the code takes it
pub value-part : {s : List ℕ} {at g a b c d : ℕ} (t : Taken s at g a b c d) → part c d s ≡ t.head.item.value
value-part {s} {at} {g} {a} {b} {c} {d} t =
    let v = t.head.item.value in
    let m : d - c ≡ length v = omega (arith, t.value-start, t.value-end) in
    let n : c ≡ at + (9 + length t.head.item.key) = omega (arith, t.value-start) in
    ap (λ (i : ℕ). take i (drop c s)) m
    ∙ ap (λ (i : ℕ). take (length v) (drop i s)) n
    ∙ ap (λ (l : List ℕ). take (length v) l) (sym (drop-drop (9 + length t.head.item.key) at s))
    ∙ sym t.whole.value-is

-- the whole item
pub item-part : {s : List ℕ} {at g a b c d : ℕ} (t : Taken s at g a b c d) → Small s → part at d s ≡ item_bytes t.head.item
item-part {s} {at} {g} {a} {b} {c} {d} t sm =
    let h = t.head in
    let m : d - at ≡ size_of h.item = omega (arith, t.value-end) in
    ap (λ (i : ℕ). take i (drop at s)) m
    ∙ ap (λ (l : List ℕ). take (size_of h.item) l) (head_bytes (drop at s) h (small-drop s at sm) t.is)
    ∙ take_at (item_bytes h.item) h.rest (size_of h.item) (length-item h.item)

module _ {s : List ℕ} {at left : ℕ} (l : Left s at left) (m : ℕ) (more : left ≡ m + 1) where
  -- an item was found
  pub turn : {g a b c d : ℕ} → ItemAt g a b c d ≡ step_of s at → Turn s at left m a b c d
  turn {g} {a} {b} {c} {d} e =
      let t = taken s at g a b c d e in
      let h = t.head in
      let f = fewer left m t more in
      record {
        item = h.item;
        list = ap (λ o. found o [] (λ ts. ts)) f ∙ opened h.item (parse m (drop d s)) (sym (ap is_some f) ∙ l.some);
        rest = record { within = t.within; some = sym (fewer-some left m t more) ∙ l.some };
        key-start = t.key-start;
        key-end = t.key-end;
        value-start = omega (arith, t.key-end, t.value-start);
        end = t.value-end;
        key = key-part t;
        value = value-part t;
        bytes = item-part t;
      }

  -- and its flags
  pub turn-flags : {g a b c d : ℕ} (e : ItemAt g a b c d ≡ step_of s at) → g ≡ (turn e).item.flags
  unfolding turn
  turn-flags {g} {a} {b} {c} {d} e = (taken s at g a b c d e).flags

-- the step finds one
pub never : {s : List ℕ} {at left : ℕ} → Left s at left → 0 < left → (r : Stepped) → r ≡ step_of s at → ((g a b c d : ℕ) → r ≡ ItemAt g a b c d → ⊥) → ⊥
never {s} {at} {left} l more r e k = true≢false (sym l.some ∙ ap is_some (parse-stop left (drop at s) more (stopped s at r e k)))

pub items-none : (s : List ℕ) → items_in 0 s ≡ []
unfolding parse
items-none [] = refl
items-none (x ∷ s) = refl
