-- Each answer by the tests that lead to it.
use mathlib.Core.Path.{◌≡◌, refl, sym, ◌∙◌}
use Rattle.std.specs.Prelude.{None, Some, Ok}
use mathlib.Core.List.{List}
use Prim.Native.Nat.{ℕ, ◌+◌, ◌-◌, ◌≤◌}
use native.Mathlib.Omega.{arith}
use borrow.Author.Rules.{rules}
use lib.ListN.{length, take, drop}
use Rattle.lists.specs.Write.{over}
use Rattle.lists.proofs.Places.{length_part}
use Rattle.ape.specs.Tag.{find_footer, read_items, read_tag}
use Rattle.ape.specs.Answers.{read_plan, read_answer, read_bytes}
use Rattle.ape.proofs.Files.{footer-within, tag-none, tag-version, tag-long, tag-here, plan-long, plan-none, plan-some}
use Rattle.ape.proofs.read_ape_tag.Goals as goal
use Rattle.ape.proofs.read_ape_tag.Goals.{In-Some}

-- no tag: nothing is written
nothing : (s out : List ℕ) → length s ≤ 16777216 → read_tag s ≡ None
    → (Ok None ≡ read_answer (read_plan s (length out))) × (out ≡ over (read_bytes (read_plan s (length out))) out)
nothing s out h e = rw (plan-none s (length out) h e) (refl, refl)

pub returns-then-file-gt-FILE_LIMIT : goal.returns-then-file-gt-FILE_LIMIT
returns-then-file-gt-FILE_LIMIT c = let g = c.args in rw (plan-long g.file.now (length g.area.now) c.if-file-gt-FILE_LIMIT.true) (refl, refl)

pub returns-in_default : goal.returns-in_default
returns-in_default c =
    let g = c.args in
    nothing g.file.now g.area.now c.if-file-gt-FILE_LIMIT.false (tag-none g.file.now (sym c.find_footer.ensures ∙ c.in_default.is))

-- the footer that was found
here : (c : In-Some) → find_footer c.args.file.now ≡ Some c.in-Some.footer
here c = sym c.find_footer.ensures ∙ c.in-Some.is

inside : (c : In-Some) → c.in-Some.footer + 32 ≤ length c.args.file.now
inside c = footer-within c.args.file.now c.in-Some.footer (here c)

-- the file is within the limit
short : (c : In-Some) → length c.args.file.now ≤ 16777216
short c = c.if-file-gt-FILE_LIMIT.false

pub returns-then-read_u32_le-ne-APE_VERSION : goal.returns-then-read_u32_le-ne-APE_VERSION
returns-then-read_u32_le-ne-APE_VERSION c =
    let g = c.args in
    nothing g.file.now g.area.now (short (goal.at.returns-then-read_u32_le-ne-APE_VERSION c).In-Some) (tag-version g.file.now c.in-Some.footer (here (goal.at.returns-then-read_u32_le-ne-APE_VERSION c).In-Some) (λ e. c.if-read_u32_le-ne-APE_VERSION.true (c.read_u32_le.ensures ∙ e)))

pub returns-then-footer-size : goal.returns-then-footer-size
returns-then-footer-size c =
    let g = c.args in
    nothing g.file.now g.area.now (short (goal.at.returns-then-footer-size c).In-Some)
    (tag-long g.file.now c.in-Some.footer (here (goal.at.returns-then-footer-size c).In-Some) (sym c.read_u32_le.ensures ∙ c.if-read_u32_le-ne-APE_VERSION.false) (omega (arith, c.read_u32_le-size.ensures, c.if-footer-size.true)))

pub slice_bounds-read_items-end : goal.slice_bounds-read_items-end
slice_bounds-read_items-end c = omega (arith, inside (goal.at.slice_bounds-read_items-end c).In-Some)

pub read_items-requires : goal.read_items-requires
read_items-requires c =
    let g = c.args in
    let f = c.in-Some.footer in
    omega (arith, length_part c.items_start-start.result f g.file.now (omega (arith, inside (goal.at.read_items-requires c).In-Some)), inside (goal.at.read_items-requires c).In-Some)

pub returns : goal.returns
returns c =
    let g = c.args in
    let s = g.file.now in
    let f = c.in-Some.footer in
    let r = c.items_start-start.result in
    let t : read_tag s ≡ Some (read_items c.read_u32_le-count.result (take (f - r) (drop r s))) =
    tag-here s f r (here (goal.at.returns c).In-Some) c.read_u32_le.ensures c.if-read_u32_le-ne-APE_VERSION.false c.read_u32_le-size.ensures c.if-footer-size.false c.read_u32_le-count.ensures c.items_start-start.ensures.1 c.items_start-start.ensures.2 in
    rw (plan-some s (length g.area.now) (short (goal.at.returns c).In-Some) (read_items c.read_u32_le-count.result (take (f - r) (drop r s))) t) c.read_items.ensures

pub overflow_add-footer : goal.overflow_add-footer
overflow_add-footer c = omega (arith, inside c)

pub read_u32_le-requires : goal.read_u32_le-requires
read_u32_le-requires c = omega (arith, inside c)

pub overflow_add-footer-2 : goal.overflow_add-footer-2
overflow_add-footer-2 c = omega (arith, inside (goal.at.overflow_add-footer-2 c).In-Some)

pub read_u32_le-size-requires : goal.read_u32_le-size-requires
read_u32_le-size-requires c = omega (arith, inside (goal.at.read_u32_le-size-requires c).In-Some)

pub overflow_add-footer-3 : goal.overflow_add-footer-3
overflow_add-footer-3 c = omega (arith, inside (goal.at.overflow_add-footer-3 c).In-Some)

pub overflow_add-footer-4 : goal.overflow_add-footer-4
overflow_add-footer-4 c = omega (arith, inside (goal.at.overflow_add-footer-4 c).In-Some)

pub read_u32_le-count-requires : goal.read_u32_le-count-requires
read_u32_le-count-requires c = omega (arith, inside (goal.at.read_u32_le-count-requires c).In-Some)

pub items_start-start-requires : goal.items_start-start-requires
items_start-start-requires c = c.if-footer-size.false

pub slice_bounds-read_items-count : goal.slice_bounds-read_items-count
slice_bounds-read_items-count c = c.items_start-start.ensures.0

pub slice_bounds-read_items-start : goal.slice_bounds-read_items-start
slice_bounds-read_items-start c = c.items_start-start.ensures.0

pub shape_of-area : goal.shape_of-area
shape_of-area c = c.read_items.auto.out
