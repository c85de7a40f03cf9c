-- Without a footer there are no items; else they have at most three times the bytes that the footer says.
use Rattle.std.specs.Prelude.{Some}
use borrow.Author.Tests.{leb-true}
use mathlib.Core.Path.{◌≡◌, sym, ap, ◌∙◌}
use Prim.Native.Nat.{◌+◌, ◌≤◌}
use native.Mathlib.Omega.{arith}
use lib.ListN.{length}
use Rattle.ape.specs.Tag.{find_footer}
use Rattle.ape.specs.Answers.{read_area}
use Rattle.ape.proofs.Files.{footer-within, tag-none}
use Rattle.listing.proofs.Tags.{tag_fits}
use Rattle.listing.proofs.is_short.Goals as goal
use Rattle.listing.proofs.is_short.Goals.{In-Some}

pub returns-in_default : goal.returns-in_default
returns-in_default c e =
    let s = c.args.file.now in
    omega (arith, ap (λ o. length (read_area o)) (tag-none s (sym c.find_footer.ensures ∙ c.in_default.is)))

-- the footer that was found
here : (c : In-Some) → find_footer c.args.file.now ≡ Some c.in-Some.footer
here c = sym c.find_footer.ensures ∙ c.in-Some.is

inside : (c : In-Some) → c.in-Some.footer + 32 ≤ length c.args.file.now
inside c = footer-within c.args.file.now c.in-Some.footer (here c)

pub returns : goal.returns
returns c e =
    let s = c.args.file.now in
    omega (arith, tag_fits s c.in-Some.footer (here (goal.at.returns c).In-Some), c.read_u32_le.ensures, leb-true)

pub overflow_add-footer : goal.overflow_add-footer
overflow_add-footer c = omega (arith, inside c)

pub read_u32_le-requires : goal.read_u32_le-requires
read_u32_le-requires c = omega (arith, inside c)
