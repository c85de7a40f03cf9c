use Rattle.std.specs.Prelude.{Some}
use mathlib.Core.Path.{◌≡◌, sym, ◌∙◌}
use Prim.Native.Nat.{◌+◌, ◌≤◌}
use native.Mathlib.Omega.{arith}
use borrow.Author.Rules.{rules}
use lib.ListN.{length}
use Rattle.ape.specs.Tag.{find_footer}
use Rattle.ape.proofs.Files.{footer-within}
use Rattle.tail_read.proofs.Ends.{needed-none, needed-at}
use Rattle.tail_read.proofs.number_needed.Goals as goal
use Rattle.tail_read.proofs.number_needed.Goals.{In-Some}

pub returns-in_default : goal.returns-in_default
returns-in_default c =
    let g = c.args in
    sym (needed-none g.probe.now g.total (sym c.find_footer.ensures ∙ c.in_default.is))

-- the footer that was found
here : (c : In-Some) → find_footer c.args.probe.now ≡ Some c.in-Some.footer
here c = sym c.find_footer.ensures ∙ c.in-Some.is

inside : (c : In-Some) → c.in-Some.footer + 32 ≤ length c.args.probe.now
inside c = footer-within c.args.probe.now c.in-Some.footer (here c)

pub returns : goal.returns
returns c =
    let g = c.args in
    omega (arith, needed-at g.probe.now g.total c.in-Some.footer (here (goal.at.returns c).In-Some), c.min.ensures, c.max.ensures, c.read_u32_le-size.ensures)

pub overflow_add-footer : goal.overflow_add-footer
overflow_add-footer c = omega (arith, inside c)

pub read_u32_le-size-requires : goal.read_u32_le-size-requires
read_u32_le-size-requires c = omega (arith, inside c)

pub overflow_sub-probe : goal.overflow_sub-probe
overflow_sub-probe c = omega (arith, inside (goal.at.overflow_sub-probe c).In-Some)
