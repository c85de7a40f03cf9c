-- What the check of level says, and then what is written.
use mathlib.Core.Path.{◌≡◌, refl}
use mathlib.Core.Bool.{true}
use Rattle.std.specs.Prelude.{Err}
use borrow.Author.Rules.{rules}
use lib.ListN.{length}
use Rattle.calls.specs.Calls.{Level}
use Rattle.checks.proofs.Whole.{Levels, level-ready, level-not}
use Rattle.sound_level.proofs.Tagging.{tag-refused, tag-last}
use Rattle.gains.specs.Moves.{level_by}
use Rattle.sound_level.proofs.level_tag.Goals as goal
use Rattle.sound_level.proofs.level_tag.Goals.{In_ok-ready, Start}

abbrev asked : (b : Start) → Level
asked b = level_by b.args.moves

-- the check is ready
ready : (c : In_ok-ready) → Levels c.args.file.now true (level_by c.args.moves) c.in_ok-ready.ready
ready c = level-ready c.args.file.now true (level_by c.args.moves) c.in_ok-ready.ensures

pub returns-in_err-ready : goal.returns-in_err-ready
returns-in_err-ready c =
    let g = c.args in
    let a = asked (goal.at.returns-in_err-ready c).Start in
    let r : c.from_residual.result ≡ Err c.in_err-ready.field-0.0 = search rules in
    rw (tag-refused g.file.now a g.range (length g.out.now) c.requires.0 c.requires.1 c.requires.2 (level-not g.file.now true a c.in_err-ready.ensures), r) (refl, refl)

pub write_file-requires : goal.write_file-requires
write_file-requires c = let r = ready (goal.at.write_file-requires c).In_ok-ready in (r.passed, r.short)

pub returns : goal.returns
returns c =
    let g = c.args in
    let r = ready (goal.at.returns c).In_ok-ready in
    rw (tag-last g.file.now (asked (goal.at.returns c).Start) g.range (length g.out.now) c.requires.0 c.requires.1 c.requires.2 r.check, ← r.numbers) c.write_file.ensures
