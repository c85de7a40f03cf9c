use Rattle.std.specs.Prelude.{Some}
use mathlib.Core.Path.{◌≡◌, sym, ◌∙◌}
use native.Mathlib.Omega.{arith}
use borrow.Author.Rules.{rules}
use Rattle.frame.specs.Tail.{tag_start}
use Rattle.ape.specs.Tag.{find_footer}
use Rattle.ape.proofs.Files.{footer-within}
use Rattle.ape_replace.proofs.Cutting.{tag-none, tag-unstarted, tag-started}
use Rattle.ape_replace.proofs.cut_ape_tag.Goals as goal
use Rattle.ape_replace.proofs.cut_ape_tag.Goals.{In-Some, In-Some-ape_tag_start}

-- the footer that was found
here : (c : In-Some) → find_footer c.args.file.now ≡ Some c.in-Some.footer
here c = sym c.find_footer.ensures ∙ c.in-Some.is

-- and the start
begun : (c : In-Some-ape_tag_start) → tag_start c.args.file.now c.in-Some.footer ≡ Some c.in-Some-ape_tag_start.before
begun c = sym c.ape_tag_start.ensures ∙ c.in-Some-ape_tag_start.is

pub returns-in_default : goal.returns-in_default
returns-in_default c =
    tag-none c.args.file.now (sym c.find_footer.ensures ∙ c.in_default.is)

pub returns-in_default-ape_tag_start : goal.returns-in_default-ape_tag_start
returns-in_default-ape_tag_start c =
    let s = c.args.file.now in
    tag-unstarted s c.in-Some.footer (here (goal.at.returns-in_default-ape_tag_start c).In-Some) (sym c.ape_tag_start.ensures ∙ c.in_default-ape_tag_start.is)

pub overflow_add-result : goal.overflow_add-result
overflow_add-result c =
    let s = c.args.file.now in
    omega (arith, footer-within s c.in-Some.footer (here (goal.at.overflow_add-result c).In-Some))

pub returns : goal.returns
returns c =
    let s = c.args.file.now in
    tag-started s c.in-Some.footer (here (goal.at.returns c).In-Some) c.in-Some-ape_tag_start.before (begun c)
