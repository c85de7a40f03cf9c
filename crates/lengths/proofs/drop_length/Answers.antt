use mathlib.Core.Path.{◌≡◌, sym, ◌∙◌}
use mathlib.Core.Bool.{Bool, true≢false}
use mathlib.Core.List.{List}
use Prim.Native.Nat.{ℕ}
use borrow.Author.Rules.{rules}
use Rattle.lists.specs.Write.{part}
use Rattle.items.specs.Items.{without}
use Rattle.area_drop.proofs.Plans.{sized, unsized}
use Rattle.lengths.proofs.drop_length.Goals as goal

pub returns-in_default : goal.returns-in_default
returns-in_default g c =
    let a = c.args in
    let p = g.T.KeyTest.test a.goes.now in
    absurd (true≢false (sym c.requires.0.good ∙ unsized (without p) a.place.count (part a.place.start a.place.end a.file.now) c.in_default.ensures))

pub returns : goal.returns
returns g c =
    let a = c.args in
    let p = g.T.KeyTest.test a.goes.now in
    let s = sized (without p) a.place.count (part a.place.start a.place.end a.file.now) c.in-Some.left c.in-Some.ensures in
    rw (← c.requires.0.items, ← s.count, ← s.length) c.last_length.ensures
