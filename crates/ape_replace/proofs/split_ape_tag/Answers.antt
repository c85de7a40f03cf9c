use Rattle.std.specs.Prelude.{Some}
use mathlib.Core.Path.{◌≡◌, sym, ◌∙◌}
use Prim.Native.Nat.{◌+◌, ◌≤◌}
use native.Mathlib.Omega.{arith}
use borrow.Author.Rules.{rules}
use lib.ListN.{length}
use Rattle.frame.specs.Tail.{tag_start}
use Rattle.frame.proofs.Tails.{start-within}
use Rattle.ape.specs.Tag.{find_footer}
use Rattle.ape.proofs.Files.{footer-within}
use Rattle.ape_replace.proofs.Cutting.{cut-none, cut-unstarted, cut-rest, cut-last}
use Rattle.ape_replace.proofs.split_ape_tag.Goals as goal
use Rattle.ape_replace.proofs.split_ape_tag.Goals.{In-Some, In-Some-ape_tag_start}

-- the footer that was found, and the start
here : (c : In-Some) → find_footer c.args.file.now ≡ Some c.in-Some.footer
here c = sym c.find_footer.ensures ∙ c.in-Some.is

begun : (c : In-Some-ape_tag_start) → tag_start c.args.file.now c.in-Some.footer ≡ Some c.in-Some-ape_tag_start.start
begun c = sym c.ape_tag_start.ensures ∙ c.in-Some-ape_tag_start.is

inside : (c : In-Some-ape_tag_start) → (c.in-Some-ape_tag_start.start ≤ length c.args.file.now) × (c.in-Some.footer + 32 ≤ length c.args.file.now)
inside c =
    let s = c.args.file.now in
    let f = c.in-Some.footer in
    (omega (arith, start-within s f c.in-Some-ape_tag_start.start (begun c)), footer-within s f ((let it : find_footer c.args.file.now ≡ Some c.in-Some.footer = sym c.find_footer.ensures ∙ c.in-Some.is in it)))

pub returns-in_default : goal.returns-in_default
returns-in_default c = c.cut_audio.ensures ∙ cut-none c.args.file.now (sym c.find_footer.ensures ∙ c.in_default.is)

pub returns-in_default-ape_tag_start : goal.returns-in_default-ape_tag_start
returns-in_default-ape_tag_start c =
    let s = c.args.file.now in
    c.cut_audio-in_default-ape_tag_start.ensures ∙ cut-unstarted s c.in-Some.footer (here (goal.at.returns-in_default-ape_tag_start c).In-Some) (sym c.ape_tag_start.ensures ∙ c.in_default-ape_tag_start.is)

pub returns-then-rest-file : goal.returns-then-rest-file
returns-then-rest-file c =
    let s = c.args.file.now in
    cut-rest s c.in-Some.footer (here (goal.at.returns-then-rest-file c).In-Some) c.in-Some-ape_tag_start.start (begun (goal.at.returns-then-rest-file c).In-Some-ape_tag_start) c.if-rest-file.true

pub returns : goal.returns
returns c =
    let s = c.args.file.now in
    c.cut_audio-2.ensures ∙ cut-last s c.in-Some.footer (here (goal.at.returns c).In-Some) c.in-Some-ape_tag_start.start (begun (goal.at.returns c).In-Some-ape_tag_start) c.if-rest-file.false

pub overflow_add-rest : goal.overflow_add-rest
overflow_add-rest c = omega (arith, inside c)

pub cut_audio-requires-2 : goal.cut_audio-requires-2
cut_audio-requires-2 c = (inside (goal.at.cut_audio-requires-2 c).In-Some-ape_tag_start).0
