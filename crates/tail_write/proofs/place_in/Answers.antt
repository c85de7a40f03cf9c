use Rattle.std.specs.Prelude.{Some}
use mathlib.Core.Path.{◌≡◌, sym, ap, ◌∙◌}
use native.Mathlib.Omega.{arith}
use Rattle.frame.specs.Tail.{tag_start}
use Rattle.ape.specs.Tag.{find_footer}
use Rattle.ape.proofs.Files.{footer-within}
use Rattle.tail_write.specs.Answers.{bare_of}
use Rattle.tail_write.proofs.Placing.{place_none, place-unstarted, place-tagged}
use Rattle.tail_write.proofs.place_in.Goals as goal
use Rattle.tail_write.proofs.place_in.Goals.{In-Some, In-Some-ape_tag_start}

-- the footer that was found, and the start
here : (c : In-Some) → find_footer c.args.file.now ≡ Some c.in-Some.footer
here c = sym c.find_footer.ensures ∙ c.in-Some.is

begun : (c : In-Some-ape_tag_start) → tag_start c.args.file.now c.in-Some.footer ≡ Some c.in-Some-ape_tag_start.start
begun c = sym c.ape_tag_start.ensures ∙ c.in-Some-ape_tag_start.is

pub returns-in_default : goal.returns-in_default
returns-in_default c =
    c.bare.ensures ∙ ap bare_of c.cut_audio.ensures
    ∙ place_none c.args.file.now (sym c.find_footer.ensures ∙ c.in_default.is)

pub returns-in_default-ape_tag_start : goal.returns-in_default-ape_tag_start
returns-in_default-ape_tag_start c =
    c.bare-in_default-ape_tag_start.ensures ∙ ap bare_of c.cut_audio-in_default-ape_tag_start.ensures
    ∙ place-unstarted c.args.file.now c.in-Some.footer (here (goal.at.returns-in_default-ape_tag_start c).In-Some) (sym c.ape_tag_start.ensures ∙ c.in_default-ape_tag_start.is)

pub returns : goal.returns
returns c =
    place-tagged c.args.file.now c.in-Some.footer (here (goal.at.returns c).In-Some) c.in-Some-ape_tag_start.start (begun c)

pub overflow_add-result : goal.overflow_add-result
overflow_add-result c = omega (arith, footer-within c.args.file.now c.in-Some.footer (here (goal.at.overflow_add-result c).In-Some))
