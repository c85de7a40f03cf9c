use mathlib.Core.Path.{◌≡◌, sym, ap, ap₂, ◌∙◌}
use mathlib.Core.Bool.{Bool}
use mathlib.Core.List.{List, ◌∷◌}
use Prim.Native.Nat.{ℕ, ◌+◌, ◌-◌}
use native.Mathlib.Omega.{arith}
use lib.ListN.{drop}
use Rattle.items.specs.Items.{Item, items_in, text_item}
use Rattle.items.proofs.Loops.{begin, Turn, turn, never, items-none}
use Rattle.calls.specs.Calls.{count_items, keeps_peak}
use Rattle.level_items.proofs.Kept.{count_none, count-one, count_next, kept_any}
use Rattle.level_items.proofs.kept_by.Goals as goal
use Rattle.level_items.proofs.kept_by.Goals.{After-keeps_peak, In-Item, then-keeps_peak, else-keeps_peak}

pub returns-in_default : goal.returns-in_default
returns-in_default c = absurd (never c.loop.invariant.0 (omega arith) c.step.result c.step.ensures c.in_default.not-Item)

-- a turn that found an item
abbrev area : (c : In-Item) → List ℕ
area c = c.args.area.now

abbrev test : (c : In-Item) → Item → Bool
test c = keeps_peak c.args.steps.0

abbrev n : (c : In-Item) → ℕ
n c = c.loop.n

here : (c : In-Item) → Turn (area c) c.loop.at (c.args.count - c.loop.counter) (c.args.count - (c.loop.counter + 1)) c.in-Item.key_start c.in-Item.key_end c.in-Item.value_start c.in-Item.value_end
here c = turn c.loop.invariant.0 _ (omega arith) (sym c.in-Item.is ∙ c.step.ensures)

abbrev tail : (c : In-Item) → List Item
tail c = items_in (c.args.count - (c.loop.counter + 1)) (drop c.in-Item.value_end (area c))

-- what is left begins with it
split : (c : In-Item) → count_items (test c) (items_in c.args.count (area c)) ≡ (n c) + count_items (test c) ((here c).item ∷ (tail c))
split c = c.loop.invariant.2 ∙ ap (λ ts. (n c) + count_items (test c) ts) (here c).list

kept : (c : After-keeps_peak) → c.keeps_peak.result ≡ (keeps_peak c.args.steps.0) ((let it : Turn c.args.area.now c.loop.at (c.args.count - c.loop.counter) (c.args.count - (c.loop.counter + 1)) c.in-Item.key_start c.in-Item.key_end c.in-Item.value_start c.in-Item.value_end = turn c.loop.invariant.0 _ (omega arith) (sym c.in-Item.is ∙ c.step.ensures) in it)).item
kept c = c.keeps_peak.ensures ∙ ap₂ (λ (a b : List ℕ). (keeps_peak c.args.steps.0) (text_item a b)) ((let it : Turn c.args.area.now c.loop.at (c.args.count - c.loop.counter) (c.args.count - (c.loop.counter + 1)) c.in-Item.key_start c.in-Item.key_end c.in-Item.value_start c.in-Item.value_end = turn c.loop.invariant.0 _ (omega arith) (sym c.in-Item.is ∙ c.step.ensures) in it)).key ((let it : Turn c.args.area.now c.loop.at (c.args.count - c.loop.counter) (c.args.count - (c.loop.counter + 1)) c.in-Item.key_start c.in-Item.key_end c.in-Item.value_start c.in-Item.value_end = turn c.loop.invariant.0 _ (omega arith) (sym c.in-Item.is ∙ c.step.ensures) in it)).value ∙ kept_any _ ((let it : Turn c.args.area.now c.loop.at (c.args.count - c.loop.counter) (c.args.count - (c.loop.counter + 1)) c.in-Item.key_start c.in-Item.key_end c.in-Item.value_start c.in-Item.value_end = turn c.loop.invariant.0 _ (omega arith) (sym c.in-Item.is ∙ c.step.ensures) in it)).item

pub loop-preserved : goal.loop-preserved
unfolding here
loop-preserved c =
    let p = (goal.at.loop-preserved c).In-Item in
    let s = split p in
    let k = sym (kept (goal.at.loop-preserved c).After-keeps_peak) in
    elim c.if-keeps_peak.branch [
      | then-keeps_peak w ↦ rw w.n-is ((here p).rest, omega (arith, c.loop.invariant.1), omega (arith, s, count-one (test p) (here p).item (tail p) (k ∙ w.if-keeps_peak.true)))
      | else-keeps_peak w ↦ rw w.n-is ((here p).rest, omega (arith, c.loop.invariant.1), omega (arith, s, count_next (test p) (here p).item (tail p) (k ∙ w.if-keeps_peak.false)))
    ]

pub returns : goal.returns
returns c =
    let g = c.args in
    let p = keeps_peak g.steps.0 in
    let z : (c.args.count - c.loop.counter) ≡ 0 = omega arith in
    let e : count_items p (items_in (c.args.count - c.loop.counter) (drop c.loop.at g.area.now)) ≡ 0 = rw (z, items-none (drop c.loop.at g.area.now)) (count_none p) in
    omega (arith, c.loop.invariant.2, e)

pub loop-init : goal.loop-init
loop-init c = let n : c.args.count - 0 ≡ c.args.count = omega arith in rw n (begin c.args.area.now c.args.count c.requires, omega arith, omega arith)

pub slice_bounds-keeps_peak-count : goal.slice_bounds-keeps_peak-count
slice_bounds-keeps_peak-count c = let t = here c in omega (arith, t.rest.within)

pub slice_bounds-keeps_peak-start : goal.slice_bounds-keeps_peak-start
slice_bounds-keeps_peak-start c = let t = here c in omega (arith, t.rest.within)

pub slice_bounds-keeps_peak-end : goal.slice_bounds-keeps_peak-end
slice_bounds-keeps_peak-end c = let t = here c in omega (arith, t.rest.within)

pub slice_bounds-keeps_peak-count-in-loop : goal.slice_bounds-keeps_peak-count-in-loop
slice_bounds-keeps_peak-count-in-loop c = let t = here (goal.at.slice_bounds-keeps_peak-count-in-loop c).In-Item in omega (arith, t.rest.within)

pub slice_bounds-keeps_peak-start-in-loop : goal.slice_bounds-keeps_peak-start-in-loop
slice_bounds-keeps_peak-start-in-loop c = let t = here (goal.at.slice_bounds-keeps_peak-start-in-loop c).In-Item in omega (arith, t.rest.within)

pub slice_bounds-keeps_peak-end-in-loop : goal.slice_bounds-keeps_peak-end-in-loop
slice_bounds-keeps_peak-end-in-loop c = let t = here (goal.at.slice_bounds-keeps_peak-end-in-loop c).In-Item in omega (arith, t.rest.within)

pub overflow_add-n : goal.overflow_add-n
overflow_add-n c = omega (arith, c.loop.invariant.1)
