use mathlib.Core.Path.{◌≡◌, refl, sym, ap, ◌∙◌}
use mathlib.Core.Bool.{true}
use mathlib.Core.List.{◌∷◌}
use Prim.Native.Nat.{◌+◌, ◌-◌}
use native.Mathlib.Omega.{arith}
use borrow.Author.Rules.{rules}
use borrow.Author.Tests.{not-true, not-false}
use lib.ListN.{drop}
use Rattle.items.specs.Items.{items_in}
use Rattle.items.proofs.Loops.{Left, begin, Turn, turn, turn-flags, never, items-none}
use Rattle.calls.specs.Gate.{item_valid, all_valid}
use Rattle.gate.proofs.Clean.{by_parts, valid-none, bad-item, valid-more}
use Rattle.gate.proofs.all_valid.Goals as goal
use Rattle.gate.proofs.all_valid.Goals.{After-item_valid, In-Item}

pub returns-in_default : goal.returns-in_default
returns-in_default c =
    absurd (never c.loop.invariant.0 (omega arith) c.step.result c.step.ensures c.in_default.not-Item)

-- one turn: the step found an item
here : (c : In-Item) → Turn c.args.area.now c.loop.at (c.args.count - c.loop.counter) (c.args.count - (c.loop.counter + 1)) c.in-Item.key_start c.in-Item.key_end c.in-Item.value_start c.in-Item.value_end
here c = turn c.loop.invariant.0 _ (omega arith) (sym c.in-Item.is ∙ c.step.ensures)

-- what is left begins with it
split : (c : In-Item) → let g = c.args in
    all_valid (items_in g.count g.area.now) ≡ all_valid ((here c).item ∷ items_in (c.args.count - (c.loop.counter + 1)) (drop c.in-Item.value_end g.area.now))
split c = c.loop.invariant.1 ∙ ap all_valid (here c).list

flags : (c : In-Item) → c.in-Item.flags ≡ (here c).item.flags
unfolding here
flags c = turn-flags c.loop.invariant.0 _ (omega arith) (sym c.in-Item.is ∙ c.step.ensures)

-- the test is that of the item
test : (c : After-item_valid) → c.item_valid.result ≡ item_valid ((let it : Turn c.args.area.now c.loop.at (c.args.count - c.loop.counter) (c.args.count - (c.loop.counter + 1)) c.in-Item.key_start c.in-Item.key_end c.in-Item.value_start c.in-Item.value_end = turn c.loop.invariant.0 _ (omega arith) (sym c.in-Item.is ∙ c.step.ensures) in it)).item
unfolding here
test c = c.item_valid.ensures ∙ by_parts ((let it : Turn c.args.area.now c.loop.at (c.args.count - c.loop.counter) (c.args.count - (c.loop.counter + 1)) c.in-Item.key_start c.in-Item.key_end c.in-Item.value_start c.in-Item.value_end = turn c.loop.invariant.0 _ (omega arith) (sym c.in-Item.is ∙ c.step.ensures) in it)).item ((let it : c.in-Item.flags ≡ ((let it : Turn c.args.area.now c.loop.at (c.args.count - c.loop.counter) (c.args.count - (c.loop.counter + 1)) c.in-Item.key_start c.in-Item.key_end c.in-Item.value_start c.in-Item.value_end = turn c.loop.invariant.0 _ (omega arith) (sym c.in-Item.is ∙ c.step.ensures) in it)).item.flags = turn-flags c.loop.invariant.0 _ (omega arith) (sym c.in-Item.is ∙ c.step.ensures) in it)) ((let it : Turn c.args.area.now c.loop.at (c.args.count - c.loop.counter) (c.args.count - (c.loop.counter + 1)) c.in-Item.key_start c.in-Item.key_end c.in-Item.value_start c.in-Item.value_end = turn c.loop.invariant.0 _ (omega arith) (sym c.in-Item.is ∙ c.step.ensures) in it)).key ((let it : Turn c.args.area.now c.loop.at (c.args.count - c.loop.counter) (c.args.count - (c.loop.counter + 1)) c.in-Item.key_start c.in-Item.key_end c.in-Item.value_start c.in-Item.value_end = turn c.loop.invariant.0 _ (omega arith) (sym c.in-Item.is ∙ c.step.ensures) in it)).value

pub returns-then-not-item_valid : goal.returns-then-not-item_valid
unfolding here
returns-then-not-item_valid c =
    sym (split (goal.at.returns-then-not-item_valid c).In-Item ∙ bad-item (here (goal.at.returns-then-not-item_valid c).In-Item).item _ (sym (test (goal.at.returns-then-not-item_valid c).After-item_valid) ∙ c.if-not-item_valid.true))

pub loop-preserved : goal.loop-preserved
unfolding here
loop-preserved c =
    ((here (goal.at.loop-preserved c).In-Item).rest, split (goal.at.loop-preserved c).In-Item ∙ valid-more (here (goal.at.loop-preserved c).In-Item).item _ (sym (test (goal.at.loop-preserved c).After-item_valid) ∙ c.if-not-item_valid.false))

pub returns : goal.returns
returns c =
    let z : (c.args.count - c.loop.counter) ≡ 0 = omega arith in
    sym (c.loop.invariant.1 ∙ rw (z, items-none (drop c.loop.at c.args.area.now)) valid-none)

pub loop-init : goal.loop-init
loop-init c = let n : c.args.count - 0 ≡ c.args.count = omega arith in rw n (begin c.args.area.now c.args.count c.requires.1, refl)

pub slice_bounds-item_valid-count : goal.slice_bounds-item_valid-count
slice_bounds-item_valid-count c = let t = here c in omega (arith, t.rest.within)

pub slice_bounds-item_valid-start : goal.slice_bounds-item_valid-start
slice_bounds-item_valid-start c = let t = here c in omega (arith, t.rest.within)

pub slice_bounds-item_valid-end : goal.slice_bounds-item_valid-end
slice_bounds-item_valid-end c = let t = here c in omega (arith, t.rest.within)

pub slice_bounds-item_valid-count-in-loop : goal.slice_bounds-item_valid-count-in-loop
slice_bounds-item_valid-count-in-loop c = let t = here (goal.at.slice_bounds-item_valid-count-in-loop c).In-Item in omega (arith, t.rest.within)

pub slice_bounds-item_valid-start-in-loop : goal.slice_bounds-item_valid-start-in-loop
slice_bounds-item_valid-start-in-loop c = let t = here (goal.at.slice_bounds-item_valid-start-in-loop c).In-Item in omega (arith, t.rest.within)

pub slice_bounds-item_valid-end-in-loop : goal.slice_bounds-item_valid-end-in-loop
slice_bounds-item_valid-end-in-loop c = let t = here (goal.at.slice_bounds-item_valid-end-in-loop c).In-Item in omega (arith, t.rest.within)

pub item_valid-requires : goal.item_valid-requires
item_valid-requires c = c.requires.0
