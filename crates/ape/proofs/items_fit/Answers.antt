use mathlib.Core.Path.{sym, ap, ◌∙◌}
use Rattle.std.specs.Prelude.{is_some}
use Prim.Native.Nat.{◌≤◌}
use lib.ListN.{length}
use Rattle.items.specs.Items.{area_bytes}
use native.Mathlib.Omega.{arith}
use borrow.Author.Rules.{rules}
use borrow.Author.Tests.{le-leb}
use Rattle.ape.specs.Tag.{read_items}
use Rattle.ape.proofs.Reading.{read-long}
use Rattle.ape.proofs.Sizing.{measured}
use Rattle.ape.proofs.items_fit.Goals as goal

pub returns-then-items-room : goal.returns-then-items-room
returns-then-items-room c =
    let g = c.args in
    let h : length (area_bytes (read_items g.count g.items.now)) ≤ g.room = omega (arith, read-long g.count g.items.now) in
    sym (le-leb _ _ h)

pub returns : goal.returns
returns c = c.is_some.ensures ∙ ap is_some c.measure_items.ensures ∙ measured c.args.room (read_items c.args.count c.args.items.now)
