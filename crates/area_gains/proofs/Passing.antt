-- The pass over the items of an area: what is done, and what is still to be set.
use Prim.Native.Nat.{ℕ, ◌+◌, ◌-◌, ◌≤◌, ◌<◌}
use native.Mathlib.Omega.{arith}
use mathlib.Core.Path.{◌≡◌, sym, ap, ◌∙◌}
use mathlib.Core.Bool.{Bool, true, false}
use Rattle.std.specs.Prelude.{Option, None, Some}
use mathlib.Core.List.{List, [], ◌∷◌, ◌++◌, map, append_assoc, append-nil}
use lib.ListN.{length, get_or, set, take, drop, length-append, length-map, length-set, take-append-drop}
use lib.Seq.{length-take-le}
use Rattle.lists.specs.Bytes.{Small}
use Rattle.lists.specs.Choice.{is_some, provided}
use Rattle.lists.specs.Write.{part}
use Rattle.keys.specs.Keys.{keys}
use Rattle.items.specs.Items.{Item, item_bytes, area_bytes, size_of, parse, items_in, with_value}
use Rattle.items.proofs.Area.{length-item, length-area, area-append}
use Rattle.items.proofs.Loops.{Left, begin, Turn, items-none}
use Rattle.area_edit.specs.Edits.{changed}
use Rattle.area_edit.proofs.Setting.{changed-item}
use Rattle.area_gains.specs.Gains.{set_each, gain_keys, marked, marks, present, gain_place, capital, added}
use Rattle.area_gains.proofs.Merge.{merged, merged-keep, merged-take, merged-each}
use Rattle.area_gains.proofs.Marks.{gains-distinct, marked-apart, not-marked, Waits, is-marked}

-- ---- one more item

pub snoc-bytes : (xs : List Item) (x : Item) → area_bytes (xs ++ (x ∷ [])) ≡ area_bytes xs ++ item_bytes x
unfolding area_bytes
snoc-bytes xs x = area-append xs (x ∷ []) ∙ rw append-nil

pub snoc-length : (xs : List Item) (x : Item) → length (area_bytes (xs ++ (x ∷ []))) ≡ length (area_bytes xs) + size_of x
snoc-length xs x = ap length (snoc-bytes xs x) ∙ rw (length-append, length-item)

-- every item has bytes
few : (ts : List Item) → length ts ≤ length (area_bytes ts)
few [] = omega arith
few (t ∷ ts) = let h = few ts in omega (arith, length-area t ts)

-- ---- the pass

-- the items of `done` are made, `left` items from `at` to the end are to come, and the marked texts are still to be set
pub record Passing (s : List ℕ) (count : ℕ) (vs : List (List ℕ)) (at left : ℕ) (m : List Bool) (done : List Item) : Type 0 where
  pub todo : Left s at left
  pub five : length m ≡ 5
  pub many : length vs ≡ 5
  pub same : set_each (present vs) (items_in count s) ≡ done ++ merged (marked gain_keys m vs) (items_in left (drop at s))
  pub passed : length done + left ≡ count

pub pass-begin : (s : List ℕ) (count : ℕ) (vs : List (List ℕ)) (m : List Bool) → length vs ≡ 5 → m ≡ marks vs → is_some (parse count s) ≡ true → Passing s count vs 0 count m []
pass-begin s count vs m n e p =
    let l : length gain_keys ≤ length vs = unfold gain_keys keys in omega arith in
    record {
      todo = begin s count p;
      five = rw (e, length-map) n;
      many = n;
      same = merged-each (present vs) (items_in count s) (marked-apart gain_keys gains-distinct (marks vs) vs l) ∙ ap (λ b. merged (marked gain_keys b vs) (items_in count s)) (sym e);
      passed = omega arith;
    }

module _ {s : List ℕ} {count : ℕ} {vs : List (List ℕ)} {at left : ℕ} {m : List Bool} {done : List Item} (x : Passing s count vs at left m done) where
  -- what is made is part of the whole
  pub pass-bytes : area_bytes (set_each (present vs) (items_in count s)) ≡ area_bytes done ++ area_bytes (merged (marked gain_keys m vs) (items_in left (drop at s)))
  pass-bytes = ap area_bytes x.same ∙ area-append done _

  pub pass-room : length (area_bytes done) ≤ length (area_bytes (set_each (present vs) (items_in count s)))
  pass-room = omega (arith, ap length pass-bytes ∙ length-append (area_bytes done) _)

  module _ (z : left ≡ 0) where
    last : set_each (present vs) (items_in count s) ≡ done ++ map capital (marked gain_keys m vs)
    unfolding merged
    last =
        let n : items_in left (drop at s) ≡ [] = ap (λ (i : ℕ). items_in i (drop at s)) z ∙ items-none (drop at s) in
        x.same ∙ ap (λ (ts : List Item). done ++ merged (marked gain_keys m vs) ts) n

    pub last-bytes : area_bytes (set_each (present vs) (items_in count s)) ≡ area_bytes done ++ added gain_keys m vs
    unfolding added
    last-bytes = ap area_bytes last ∙ area-append done (map capital (marked gain_keys m vs))

    pub last-length : length (area_bytes (set_each (present vs) (items_in count s))) ≡ length (area_bytes done) + length (added gain_keys m vs)
    last-length = ap length last-bytes ∙ length-append (area_bytes done) (added gain_keys m vs)

    pub last-count : length (set_each (present vs) (items_in count s)) ≡ count + length (marked gain_keys m vs)
    last-count = ap length last ∙ rw (length-append, length-map) (omega (arith, x.passed))

    pub last-few : count ≤ length (area_bytes done)
    last-few = omega (arith, x.passed, few done)

  -- the bytes of an item with another value, as the code writes them
  pub new-bytes : {l a b c d : ℕ} (t : Turn s at left l a b c d) → Small s → (v : List ℕ) → changed s at b v ≡ item_bytes (with_value v t.item)
  new-bytes {l} {a} {b} {c} {d} t sm v =
      let r : s ≡ take at s ++ (item_bytes t.item ++ drop (d - at) (drop at s)) =
      sym (take-append-drop at s) ∙ ap (λ (l : List ℕ). take at s ++ l) (sym (take-append-drop (d - at) (drop at s)) ∙ ap (λ (l : List ℕ). l ++ drop (d - at) (drop at s)) (t.bytes sm)) in
      changed-item s (take at s) _ t.item v at b r (sym (length-take-le at s x.todo.within)) t.key-end

  module _ {l a b c d : ℕ} (t : Turn s at left l a b c d) (more : left ≡ l + 1) {o : Option ℕ} (e : o ≡ provided (λ i. get_or m i false) (gain_place (part a b s))) where
    placed : provided (λ i. get_or m i false) (gain_place t.item.key) ≡ o
    placed = ap (λ k. provided (λ i. get_or m i false) (gain_place k)) (sym t.key) ∙ sym e

    moved : (x' : Item) → length (done ++ (x' ∷ [])) + l ≡ count
    moved x' = rw length-append (omega (arith, x.passed))

    behind : (x' : Item) (m' : List Bool) → merged (marked gain_keys m vs) (items_in left (drop at s)) ≡ x' ∷ merged (marked gain_keys m' vs) (items_in l (drop d s))
        → set_each (present vs) (items_in count s) ≡ (done ++ (x' ∷ [])) ++ merged (marked gain_keys m' vs) (items_in l (drop d s))
    behind x' m' f = x.same ∙ ap (λ (ts : List Item). done ++ ts) f ∙ sym (append_assoc done (x' ∷ []) _)

    -- the item stays as it is
    pub pass-keep : o ≡ None → Passing s count vs d l m (done ++ (t.item ∷ []))
    pass-keep f =
        let n = not-marked m vs x.five x.many t.item.key (placed ∙ f) in
        record {
          todo = t.rest;
          five = x.five;
          many = x.many;
          same = behind t.item m (ap (merged (marked gain_keys m vs)) t.list ∙ merged-keep (marked gain_keys m vs) t.item _ n);
          passed = moved t.item;
        }

    module _ (i : ℕ) (f : o ≡ Some i) where
      -- the item gets the text at its place
      abbrev pub new : Item
      new = with_value (get_or vs i []) t.item

      waits : Waits m vs x.five x.many t.item.key i
      waits = is-marked m vs x.five x.many t.item.key i (placed ∙ f)

      pub pass-within : i < 5
      pass-within = waits.within

      pub pass-set : Passing s count vs d l (set m i false) (done ++ (new ∷ []))
      pass-set =
          let w = waits in
          record {
            todo = t.rest;
            five = length-set m i false ∙ x.five;
            many = x.many;
            same = behind new (set m i false) (ap (merged (marked gain_keys m vs)) t.list ∙ merged-take (marked gain_keys m vs) t.item _ _ w.gets ∙ rw w.leaves);
            passed = moved new;
          }
