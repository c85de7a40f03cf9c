use mathlib.Core.Path.{◌≡◌, refl}
use Prim.Native.Nat.{◌≤◌, ◌<◌}
use native.Mathlib.Omega.{arith}
use borrow.Author.Rules.{rules}
use borrow.Author.Tests.{le-leb, lt-leb}
use lib.ListN.{length}
use Rattle.items.specs.Items.{items_in}
use Rattle.ape.specs.Tag.{replaced}
use Rattle.ape_replace.specs.Answers.{room_plan}
use Rattle.ape_write.proofs.Tags.{serialize-length, tag-most}
use Rattle.ape_replace.proofs.Cutting.{cuts-as, replaced-length}
use Rattle.ape_replace.proofs.replace_items.Goals as goal
use Rattle.ape_replace.proofs.replace_items.Goals.{After-file_length-n}

-- how long the file is
long : (c : After-file_length-n) → c.file_length-n.result ≡ length (replaced c.args.file.now (items_in c.args.count c.args.area.now))
long c =
    let cut = cuts-as c.args.file.now _ c.split_ape_tag-cut.ensures in
    let t = serialize-length c.args.area.now c.args.count (λ i. omega (arith, c.shared_slice_known-2-1.given i)) c.requires.1 in
    omega (arith, c.file_length-n.ensures, c.tag_length.ensures, t, replaced-length cut (items_in c.args.count c.args.area.now))

pub file_length-n-requires : goal.file_length-n-requires
file_length-n-requires c =
    let cut = cuts-as c.args.file.now _ c.split_ape_tag-cut.ensures in
    (omega (arith, cut.front-within, c.requires.0), cut.order, omega (arith, cut.within, c.requires.0), omega (arith, c.tag_length.ensures, tag-most (length c.args.area.now) c.args.count))

pub returns-then-out-n : goal.returns-then-out-n
unfolding room_plan
returns-then-out-n c =
    let h : length c.args.out.now < length (replaced c.args.file.now (items_in c.args.count c.args.area.now)) = omega (arith, long (goal.at.returns-then-out-n c).After-file_length-n) in
    rw (lt-leb _ _ h) (refl, refl)

pub returns-then-n-gt-FILE_LIMIT : goal.returns-then-n-gt-FILE_LIMIT
unfolding room_plan
returns-then-n-gt-FILE_LIMIT c =
    let n = length (replaced c.args.file.now (items_in c.args.count c.args.area.now)) in
    let h : n ≤ length c.args.out.now = omega (arith, long (goal.at.returns-then-n-gt-FILE_LIMIT c).After-file_length-n) in
    let k : 16777216 < n = omega (arith, long (goal.at.returns-then-n-gt-FILE_LIMIT c).After-file_length-n) in
    rw (le-leb _ _ h, lt-leb _ _ k) (refl, refl)

pub put_file-requires : goal.put_file-requires
put_file-requires c =
    (cuts-as c.args.file.now _ c.split_ape_tag-cut.ensures, c.requires.1, omega (arith, long (goal.at.put_file-requires c).After-file_length-n), omega (arith, long (goal.at.put_file-requires c).After-file_length-n))

pub returns : goal.returns
unfolding room_plan
returns c =
    let n = length (replaced c.args.file.now (items_in c.args.count c.args.area.now)) in
    let h : n ≤ length c.args.out.now = omega (arith, long (goal.at.returns c).After-file_length-n) in
    let k : n ≤ 16777216 = omega (arith, long (goal.at.returns c).After-file_length-n) in
    rw (le-leb _ _ h, le-leb _ _ k, c.put_file.ensures.0) (refl, c.put_file.ensures.1)
