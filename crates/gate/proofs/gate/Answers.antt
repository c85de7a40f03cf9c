-- Each answer by the tests that lead to it.
use Rattle.std.specs.Prelude.{Some}
use mathlib.Core.Path.{◌≡◌, refl, sym, ap, ◌∙◌}
use mathlib.Core.Bool.{Bool, true, false}
use mathlib.Core.List.{List}
use Prim.Native.Nat.{ℕ, ◌+◌, ◌-◌, ◌≤◌}
use native.Mathlib.Omega.{arith}
use borrow.Author.Rules.{rules}
use borrow.Author.Tests.{not-true, not-false}
use lib.ListN.{length}
use Rattle.lists.specs.Choice.{provided, is_some}
use Rattle.lists.specs.Write.{part}
use Rattle.replies.specs.Limits.{count_limit}
use Rattle.frame.specs.Tail.{tag_start}
use Rattle.items.specs.Items.{parse}
use Rattle.ape.specs.Tag.{find_footer, version_at, size_at, count_at, area_at}
use Rattle.ape.proofs.Files.{footer-within, area-part}
use Rattle.calls.specs.Gate.{is_headed, all_valid}
use Rattle.gate.proofs.Gates.{start-size, gate-empty, other-version, no-footer-counted, no_start, many-items, many-bytes, no_header, bad-items, good-items}
use Rattle.gate.proofs.gate.Goals as goal
use Rattle.gate.proofs.gate.Goals.{After-is_clean, Else-count-gt-COUNT_LIMIT, Else-not-is_headed, Else-read_u32_le-ne-APE_VERSION, Else-size, Else-size-lt32, In-Some, In-Some-ape_tag_start}

pub returns-in_default : goal.returns-in_default
returns-in_default c = gate-empty c.args.file.now (sym c.find_footer.ensures ∙ c.in_default.is)

-- the footer that was found
here : (c : In-Some) → find_footer c.args.file.now ≡ Some c.in-Some.footer
here c = sym c.find_footer.ensures ∙ c.in-Some.is

inside : (c : In-Some) → c.in-Some.footer + 32 ≤ length c.args.file.now
inside c = footer-within c.args.file.now c.in-Some.footer (here c)

pub returns-then-read_u32_le-ne-APE_VERSION : goal.returns-then-read_u32_le-ne-APE_VERSION
returns-then-read_u32_le-ne-APE_VERSION c =
    other-version c.args.file.now c.in-Some.footer (here (goal.at.returns-then-read_u32_le-ne-APE_VERSION c).In-Some) (λ e. c.if-read_u32_le-ne-APE_VERSION.true (c.read_u32_le.ensures ∙ e))

version : (c : Else-read_u32_le-ne-APE_VERSION) → version_at c.args.file.now c.in-Some.footer ≡ 2000
version c = sym c.read_u32_le.ensures ∙ c.if-read_u32_le-ne-APE_VERSION.false

pub returns-then-size-lt32 : goal.returns-then-size-lt32
returns-then-size-lt32 c =
    no-footer-counted c.args.file.now c.in-Some.footer (here (goal.at.returns-then-size-lt32 c).In-Some) (version (goal.at.returns-then-size-lt32 c).Else-read_u32_le-ne-APE_VERSION) (omega (arith, c.read_u32_le-size.ensures, c.if-size-lt32.true))

-- the size counts the footer
counted : (c : Else-size-lt32) → 32 ≤ size_at c.args.file.now c.in-Some.footer
counted c = omega (arith, c.read_u32_le-size.ensures, c.if-size-lt32.false)

pub returns-in_default-ape_tag_start : goal.returns-in_default-ape_tag_start
returns-in_default-ape_tag_start c =
    no_start c.args.file.now c.in-Some.footer (here (goal.at.returns-in_default-ape_tag_start c).In-Some) (version (goal.at.returns-in_default-ape_tag_start c).Else-read_u32_le-ne-APE_VERSION) (counted (goal.at.returns-in_default-ape_tag_start c).Else-size-lt32) (sym c.ape_tag_start.ensures ∙ c.in_default-ape_tag_start.is)

-- the tag starts in the file
begun : (c : In-Some-ape_tag_start) → tag_start c.args.file.now c.in-Some.footer ≡ Some c.in-Some-ape_tag_start.tag
begun c = sym c.ape_tag_start.ensures ∙ c.in-Some-ape_tag_start.is

pub returns-then-count-gt-COUNT_LIMIT : goal.returns-then-count-gt-COUNT_LIMIT
returns-then-count-gt-COUNT_LIMIT c =
    many-items c.args.file.now c.in-Some.footer (here (goal.at.returns-then-count-gt-COUNT_LIMIT c).In-Some) (version (goal.at.returns-then-count-gt-COUNT_LIMIT c).Else-read_u32_le-ne-APE_VERSION) (counted (goal.at.returns-then-count-gt-COUNT_LIMIT c).Else-size-lt32) c.in-Some-ape_tag_start.tag (begun (goal.at.returns-then-count-gt-COUNT_LIMIT c).In-Some-ape_tag_start) (omega (arith, c.read_u32_le-count.ensures, c.if-count-gt-COUNT_LIMIT.true))

-- and has not too many items
few : (c : Else-count-gt-COUNT_LIMIT) → count_at c.args.file.now c.in-Some.footer ≤ count_limit
few c = omega (arith, c.read_u32_le-count.ensures, c.if-count-gt-COUNT_LIMIT.false)

pub returns-then-size : goal.returns-then-size
returns-then-size c =
    many-bytes c.args.file.now c.in-Some.footer (here (goal.at.returns-then-size c).In-Some) (version (goal.at.returns-then-size c).Else-read_u32_le-ne-APE_VERSION) (counted (goal.at.returns-then-size c).Else-size-lt32) c.in-Some-ape_tag_start.tag (begun (goal.at.returns-then-size c).In-Some-ape_tag_start) (few (goal.at.returns-then-size c).Else-count-gt-COUNT_LIMIT) (omega (arith, c.read_u32_le-size.ensures, c.if-size.true))

-- nor too many bytes
short : (c : Else-size) → let s = c.args.file.now in let f = c.in-Some.footer in
    (size_at s f ≤ 32800) × (c.read_u32_le-size.result ≤ f + 32)
short c =
    let s = c.args.file.now in
    let f = c.in-Some.footer in
    let z = c.read_u32_le-size.ensures in
    (omega (arith, z, c.if-size.false), omega (arith, z, start-size s f c.in-Some-ape_tag_start.tag ((let it : tag_start c.args.file.now c.in-Some.footer ≡ Some c.in-Some-ape_tag_start.tag = sym c.ape_tag_start.ensures ∙ c.in-Some-ape_tag_start.is in it))))

-- the tag starts before its footer
pub is_headed-requires : goal.is_headed-requires
is_headed-requires c =
    (omega (arith, inside (goal.at.is_headed-requires c).In-Some), omega (arith, start-size _ _ _ (begun (goal.at.is_headed-requires c).In-Some-ape_tag_start), counted (goal.at.is_headed-requires c).Else-size-lt32), begun (goal.at.is_headed-requires c).In-Some-ape_tag_start)

pub returns-then-not-is_headed : goal.returns-then-not-is_headed
returns-then-not-is_headed c =
    no_header c.args.file.now c.in-Some.footer (here (goal.at.returns-then-not-is_headed c).In-Some) (version (goal.at.returns-then-not-is_headed c).Else-read_u32_le-ne-APE_VERSION) (counted (goal.at.returns-then-not-is_headed c).Else-size-lt32) c.in-Some-ape_tag_start.tag (begun (goal.at.returns-then-not-is_headed c).In-Some-ape_tag_start) (few (goal.at.returns-then-not-is_headed c).Else-count-gt-COUNT_LIMIT) (short (goal.at.returns-then-not-is_headed c).Else-size).0
    (sym c.is_headed.ensures ∙ c.if-not-is_headed.true)

-- the header stands there
headed : (c : Else-not-is_headed) → is_headed c.args.file.now c.in-Some.footer ≡ true
headed c = sym c.is_headed.ensures ∙ c.if-not-is_headed.false

-- the part that is tested is the area of the items
area : (c : After-is_clean) → let s = c.args.file.now in
    let f = c.in-Some.footer in
    part (f + 32 - c.read_u32_le-size.result) f s ≡ area_at s f
area c =
    let s = c.args.file.now in
    let f = c.in-Some.footer in
    let n = c.read_u32_le-size.result in
    area-part s f (f + 32 - n) n (sym c.read_u32_le-size.ensures) (omega (
      arith,
      (let it : let s = c.args.file.now in let f = c.in-Some.footer in
          (size_at s f ≤ 32800) × (c.read_u32_le-size.result ≤ f + 32) = let s = c.args.file.now in
          let f = c.in-Some.footer in
          let z = c.read_u32_le-size.ensures in
          (omega (arith, z, c.if-size.false), omega (arith, z, start-size s f c.in-Some-ape_tag_start.tag ((let it : tag_start c.args.file.now c.in-Some.footer ≡ Some c.in-Some-ape_tag_start.tag = sym c.ape_tag_start.ensures ∙ c.in-Some-ape_tag_start.is in it)))) in it),
      (let it : 32 ≤ size_at c.args.file.now c.in-Some.footer = omega (arith, c.read_u32_le-size.ensures, c.if-size-lt32.false) in it),
      c.read_u32_le-size.ensures,
    )) (λ h. refl)

clean : (c : After-is_clean) → (t : Bool) → c.is_clean.result ≡ t
    → let s = c.args.file.now in
    let f = c.in-Some.footer in
    is_some (provided all_valid (parse (count_at s f) (area_at s f))) ≡ t
clean c t e =
    let s = c.args.file.now in
    let f = c.in-Some.footer in
    let a = f + 32 - c.read_u32_le-size.result in
    ap (λ (l : List ℕ). is_some (provided all_valid (parse (count_at s f) l))) (sym (area c))
    ∙ ap (λ (n : ℕ). is_some (provided all_valid (parse n (part a f s)))) (sym c.read_u32_le-count.ensures)
    ∙ sym c.is_clean.ensures
    ∙ e

pub returns-then-not-is_clean : goal.returns-then-not-is_clean
returns-then-not-is_clean c =
    bad-items c.args.file.now c.in-Some.footer (here (goal.at.returns-then-not-is_clean c).In-Some) (version (goal.at.returns-then-not-is_clean c).Else-read_u32_le-ne-APE_VERSION) (counted (goal.at.returns-then-not-is_clean c).Else-size-lt32) c.in-Some-ape_tag_start.tag (begun (goal.at.returns-then-not-is_clean c).In-Some-ape_tag_start) (few (goal.at.returns-then-not-is_clean c).Else-count-gt-COUNT_LIMIT) (short (goal.at.returns-then-not-is_clean c).Else-size).0 (headed (goal.at.returns-then-not-is_clean c).Else-not-is_headed)
    (clean (goal.at.returns-then-not-is_clean c).After-is_clean false c.if-not-is_clean.true)

pub returns : goal.returns
returns c =
    let s = c.args.file.now in
    let f = c.in-Some.footer in
    let x = clean (goal.at.returns c).After-is_clean true c.if-not-is_clean.false in
    let size : c.read_u32_le-size.result ≡ size_at s f = c.read_u32_le-size.ensures in
    let count : c.read_u32_le-count.result ≡ count_at s f = c.read_u32_le-count.ensures in
    rw (size, count) (good-items s f (here (goal.at.returns c).In-Some) (version (goal.at.returns c).Else-read_u32_le-ne-APE_VERSION) (counted (goal.at.returns c).Else-size-lt32) c.in-Some-ape_tag_start.tag (begun (goal.at.returns c).In-Some-ape_tag_start) (few (goal.at.returns c).Else-count-gt-COUNT_LIMIT) (short (goal.at.returns c).Else-size).0 (headed (goal.at.returns c).Else-not-is_headed) x)

pub overflow_add-footer : goal.overflow_add-footer
overflow_add-footer c = omega (arith, inside c)

pub read_u32_le-requires : goal.read_u32_le-requires
read_u32_le-requires c = omega (arith, inside c)

pub overflow_add-footer-2 : goal.overflow_add-footer-2
overflow_add-footer-2 c = omega (arith, inside (goal.at.overflow_add-footer-2 c).In-Some)

pub read_u32_le-size-requires : goal.read_u32_le-size-requires
read_u32_le-size-requires c = omega (arith, inside (goal.at.read_u32_le-size-requires c).In-Some)

pub overflow_add-footer-3 : goal.overflow_add-footer-3
overflow_add-footer-3 c = omega (arith, inside (goal.at.overflow_add-footer-3 c).In-Some)

pub read_u32_le-count-requires : goal.read_u32_le-count-requires
read_u32_le-count-requires c = omega (arith, inside (goal.at.read_u32_le-count-requires c).In-Some)

pub overflow_add-start : goal.overflow_add-start
overflow_add-start c = omega (arith, inside (goal.at.overflow_add-start c).In-Some)

pub overflow_sub-start : goal.overflow_sub-start
overflow_sub-start c = omega (arith, short (goal.at.overflow_sub-start c).Else-size)

pub slice_bounds-is_clean-end : goal.slice_bounds-is_clean-end
slice_bounds-is_clean-end c = omega (arith, inside (goal.at.slice_bounds-is_clean-end c).In-Some)
