use mathlib.Core.Path.{◌≡◌, sym, ◌∙◌}
use Prim.Native.Nat.{◌≤◌, ◌<◌}
use native.Mathlib.Omega.{arith}
use borrow.Author.Rules.{rules}
use Rattle.ape_write.proofs.Tags.{tag-most}
use Rattle.ape_replace.proofs.Cutting.{cuts-as}
use Rattle.lengths.specs.Sizes.{sized}
use Rattle.lengths.proofs.Measuring.{sized-cut, too_many, too_long, no_room, fits}
use Rattle.lengths.proofs.last_length.Goals as goal
use Rattle.lengths.proofs.last_length.Goals.{After-file_length-n}

pub returns-then-count-gt-COUNT_LIMIT : goal.returns-then-count-gt-COUNT_LIMIT
returns-then-count-gt-COUNT_LIMIT c = let g = c.args in rw (too_many g.file.now g.size g.count c.if-count-gt-COUNT_LIMIT.true)

pub returns-then-size-gt-AREA_LIMIT : goal.returns-then-size-gt-AREA_LIMIT
returns-then-size-gt-AREA_LIMIT c = let g = c.args in rw (too_long g.file.now g.size g.count c.if-count-gt-COUNT_LIMIT.false c.if-size-gt-AREA_LIMIT.true)

pub file_length-n-requires : goal.file_length-n-requires
file_length-n-requires c =
    let cut = cuts-as c.args.file.now _ c.ape_tag_parts-cut.ensures in
    (omega (arith, cut.front-within, c.requires), cut.order, omega (arith, cut.within, c.requires), omega (arith, c.tag_length.ensures, tag-most c.args.size c.args.count, c.if-size-gt-AREA_LIMIT.false))

-- how long the file would be
long : (c : After-file_length-n) → c.file_length-n.result ≡ sized c.args.file.now c.args.size c.args.count
long c =
    let cut = cuts-as c.args.file.now _ c.ape_tag_parts-cut.ensures in
    c.file_length-n.ensures ∙ rw c.tag_length.ensures (sym (sized-cut cut c.args.size c.args.count))

pub returns-then-n-gt-FILE_LIMIT : goal.returns-then-n-gt-FILE_LIMIT
returns-then-n-gt-FILE_LIMIT c =
    let h : 16777216 < sized c.args.file.now c.args.size c.args.count = omega (arith, long (goal.at.returns-then-n-gt-FILE_LIMIT c).After-file_length-n, c.if-n-gt-FILE_LIMIT.true) in
    rw (no_room c.args.file.now c.args.size c.args.count c.if-count-gt-COUNT_LIMIT.false c.if-size-gt-AREA_LIMIT.false h)

pub returns : goal.returns
returns c =
    let h : sized c.args.file.now c.args.size c.args.count ≤ 16777216 = omega (arith, long (goal.at.returns c).After-file_length-n, c.if-n-gt-FILE_LIMIT.false) in
    rw (fits c.args.file.now c.args.size c.args.count c.if-count-gt-COUNT_LIMIT.false c.if-size-gt-AREA_LIMIT.false h, long (goal.at.returns c).After-file_length-n)
