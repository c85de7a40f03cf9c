-- The two loops over items of which some go: one that measures what stays, and one that writes it.
use Prim.Native.Nat.{ℕ, ◌+◌, ◌-◌, ◌*◌, ◌≤◌, ◌<◌}
use native.Mathlib.Nat.{zero-add, add-zero}
use native.Mathlib.Omega.{arith}
use mathlib.Core.Path.{◌≡◌, refl, sym, ap, ◌∙◌}
use mathlib.Core.Bool.{Bool, true, false, cond}
use Rattle.std.specs.Prelude.{Option, None, Some, option_map}
use mathlib.Core.List.{List, [], ◌∷◌, ◌++◌, append_assoc, append-nil}
use lib.ListN.{length, drop, length-append, length-take, get_or}
use Rattle.std.proofs.lemmas.List.{get_or-take, get_or_past}
use lib.Seq.{get_or-drop}
use lib.Dec.{eqb, leb}
use borrow.Author.Tests.{eq-eqb, ne_eqb, leb-true, leb-false}
use Rattle.lists.specs.Bytes.{Small}
use Rattle.lists.specs.Choice.{is_some}
use Rattle.lists.specs.Write.{over, part}
use Rattle.lists.proofs.Wrote.{Wrote, start, from_start}
use Rattle.items.specs.Items.{Item, item_bytes, area_bytes, head as head_of, parse, items_in, without}
use Rattle.items.specs.declared.Size.{Size}
use Rattle.items.proofs.Area.{length-item, length-area, parse-long, parse-stop, parse-end, parse-none}
use Rattle.items.proofs.Walk.{Taken, fewer, key-part}
use Rattle.items.proofs.Loops.{Left, begin, Turn, items-none}
use Rattle.area_drop.specs.Drops.{measured_of}

-- a part of bytes is one
pub small-part : (s : List ℕ) (a b : ℕ) → Small s → Small (part a b s)
small-part s a b h i = go (leb (b - a) i) refl
  where
    go : (t : Bool) → leb (b - a) i ≡ t → get_or (part a b s) i 0 < 256
    go true e = omega (arith, get_or_past (part a b s) i 0 (let u = leb-true _ _ e in simp length-take (omega arith)))
    go false e = let u = leb-false _ _ e in rw (get_or-take (b - a) (drop a s) i 0 u, get_or-drop) (h (a + i))

module _ (p : List ℕ → Bool) where
  goes : (t : Item) (ts : List Item) → p t.key ≡ true → without p (t ∷ ts) ≡ without p ts
  unfolding without
  goes t ts e = rw e

  stays : (t : Item) (ts : List Item) → p t.key ≡ false → without p (t ∷ ts) ≡ t ∷ without p ts
  unfolding without
  stays t ts e = rw e

  -- ---- the loop that measures

  -- n items of `size` bytes, and those that stay of the items
  abbrev sum : ℕ → ℕ → List Item → Size
  sum n size ts = record { count = n + length (without p ts); length = size + length (area_bytes (without p ts)) }

  -- n items of `size` bytes stay so far, and the `left` items from `at` to the end are to come
  abbrev pub measured : List ℕ → ℕ → ℕ → ℕ → ℕ → Option Size
  measured s at left n size = option_map (sum n size) (parse left (drop at s))

  pub measure-long : (s : List ℕ) (count : ℕ) → length s < 9 * count → measured_of (without p) count s ≡ None
  measure-long s count h = rw (parse-long count s h)

  pub measure-stop : (s : List ℕ) (at left n size : ℕ) → 0 < left → head_of (drop at s) ≡ None → measured s at left n size ≡ None
  measure-stop s at left n size h e = rw (parse-stop left (drop at s) h e)

  module _ {s : List ℕ} {at g a b c d : ℕ} (left m n size : ℕ) (t : Taken s at g a b c d) (more : left ≡ m + 1) {x : Bool} (e : x ≡ p (part a b s)) where
    tested : (y : Bool) → x ≡ y → p t.head.item.key ≡ y
    tested y f = ap p (sym (key-part t)) ∙ sym e ∙ f

    made : (o : Option (List Item)) → option_map (sum n size) (option_map (λ ts. t.head.item ∷ ts) o) ≡ option_map (λ ts. sum n size (t.head.item ∷ ts)) o
    made None = refl
    made (Some ts) = refl

    here : measured s at left n size ≡ option_map (λ ts. sum n size (t.head.item ∷ ts)) (parse m (drop d s))
    here = ap (option_map (sum n size)) (fewer left m t more) ∙ made (parse m (drop d s))

    pub measure-drop : x ≡ true → measured s at left n size ≡ measured s d m n size
    measure-drop f = here ∙ go (parse m (drop d s))
      where
        go : (o : Option (List Item)) → option_map (λ ts. sum n size (t.head.item ∷ ts)) o ≡ option_map (sum n size) o
        go None = refl
        go (Some ts) = rw (goes t.head.item ts (tested true f))

    pub measure-keep : x ≡ false → measured s at left n size ≡ measured s d m (n + 1) (size + (d - at))
    measure-keep f = here ∙ go (parse m (drop d s))
      where
        go : (o : Option (List Item)) → option_map (λ ts. sum n size (t.head.item ∷ ts)) o ≡ option_map (sum (n + 1) (size + (d - at))) o
        go None = refl
        go (Some ts) =
            let r = stays t.head.item ts (tested false f) in
            let k : n + length (without p (t.head.item ∷ ts)) ≡ n + 1 + length (without p ts) = rw r (omega arith) in
            let m : size + length (area_bytes (without p (t.head.item ∷ ts))) ≡ size + (d - at) + length (area_bytes (without p ts)) =
            rw r (omega (arith, length-area t.head.item (without p ts), t.value-end)) in
            cc

  -- nothing is left
  module _ (s : List ℕ) (at n size : ℕ) (within : at ≤ length s) where
    abbrev done : Size
    done = record { count = n; length = size }

    last : measured s at 0 n size ≡ cond (eqb at (length s)) (Some done) None
    unfolding without area_bytes
    last = go (parse 0 (drop at s)) refl
      where
        go : (o : Option (List Item)) → parse 0 (drop at s) ≡ o → measured s at 0 n size ≡ cond (eqb at (length s)) (Some done) None
        go None e = rw (e, ← parse-end s at within, e)
        go (Some ts) e = rw (e, ← parse-end s at within, e, parse-none (drop at s) ts e) (simp add-zero)

    module _ (left : ℕ) (z : left ≡ 0) where
      none_left : measured s at left n size ≡ measured s at 0 n size
      none_left = ap (λ (i : ℕ). measured s at i n size) z

      pub measure-end : at ≡ length s → measured s at left n size ≡ Some done
      measure-end e = none_left ∙ last ∙ rw (eq-eqb at (length s) e)

      pub measure-behind : (at ≡ length s → ⊥) → measured s at left n size ≡ None
      measure-behind e = none_left ∙ last ∙ rw (ne_eqb at (length s) e)

  -- ---- the loop that writes

  -- done is written, and what stays of the `left` items from `at` to the end is to come
  pub record Keeping (s : List ℕ) (count : ℕ) (out₀ out : List ℕ) (at left o : ℕ) : Type 0 where
    pub todo : Left s at left
    pub done : List ℕ
    pub same : area_bytes (without p (items_in count s)) ≡ done ++ area_bytes (without p (items_in left (drop at s)))
    pub wrote : Wrote out₀ 0 done o out
    pub long : length out ≡ length out₀

  pub keep-begin : (s : List ℕ) (count : ℕ) (out : List ℕ) → is_some (parse count s) ≡ true → Keeping s count out out 0 count 0
  keep-begin s count out e = record { todo = begin s count e; done = []; same = refl; wrote = start out 0 (omega arith); long = refl }

  module _ {s : List ℕ} {count : ℕ} {out₀ out : List ℕ} {at left m o a b c d : ℕ} (x : Keeping s count out₀ out at left o) (t : Turn s at left m a b c d) {y : Bool} (e : y ≡ p (part a b s)) where
    test : (z : Bool) → y ≡ z → p t.item.key ≡ z
    test z f = ap p (sym t.key) ∙ sym e ∙ f

    pub keep-drop : y ≡ true → Keeping s count out₀ out d m o
    keep-drop f =
        record {
          todo = t.rest;
          done = x.done;
          same = x.same ∙ ap (λ (ts : List Item). x.done ++ area_bytes ts) (ap (without p) t.list ∙ goes t.item (items_in m (drop d s)) (test true f));
          wrote = x.wrote;
          long = x.long;
        }

    kept_same : y ≡ false → area_bytes (without p (items_in count s)) ≡ (x.done ++ item_bytes t.item) ++ area_bytes (without p (items_in m (drop d s)))
    unfolding area_bytes
    kept_same f =
        x.same
        ∙ ap (λ (ts : List Item). x.done ++ area_bytes ts) (ap (without p) t.list ∙ stays t.item (items_in m (drop d s)) (test false f))
        ∙ sym (append_assoc x.done (item_bytes t.item) (area_bytes (without p (items_in m (drop d s)))))

    -- there is room for one more
    pub keep-room : y ≡ false → length (area_bytes (without p (items_in count s))) ≤ length out₀ → o + (d - at) ≤ length out
    keep-room f r =
        let k = simp length-append at (ap length (kept_same f)) in
        omega (arith, k, r, length-item t.item, x.wrote.ends, x.long, t.end)

    pub keep-keep : y ≡ false → Small s → (o' : ℕ) (out' : List ℕ) → length out' ≡ length out
        → Wrote out₀ 0 (x.done ++ part at d s) o' out' → Keeping s count out₀ out' d m o'
    keep-keep f sm o' out' l w =
        record { todo = t.rest; done = x.done ++ item_bytes t.item; same = kept_same f; wrote = rw (t.bytes sm) at w; long = l ∙ x.long }

  pub keep-end : {s : List ℕ} {count : ℕ} {out₀ out : List ℕ} {at left o : ℕ} (x : Keeping s count out₀ out at left o) → left ≡ 0
      → (o ≡ length (area_bytes (without p (items_in count s)))) × (out ≡ over (area_bytes (without p (items_in count s))) out₀)
  unfolding without area_bytes
  keep-end {s} {count} {out₀} {out} {at} {left} {o} x z =
      let n : items_in left (drop at s) ≡ [] = ap (λ (m : ℕ). items_in m (drop at s)) z ∙ items-none (drop at s) in
      let k : area_bytes (without p (items_in count s)) ≡ x.done = x.same ∙ ap (λ (ts : List Item). x.done ++ area_bytes (without p ts)) n ∙ append-nil x.done in
      (x.wrote.ends ∙ rw (zero-add, k), from_start x.wrote ∙ rw k)
