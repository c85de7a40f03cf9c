-- The items that stay are written into the lent array, and read back from it.
use mathlib.Core.Path.{◌≡◌, sym, ap, ◌∙◌}
use mathlib.Core.Bool.{Bool, true≢false}
use Rattle.std.specs.Prelude.{Some}
use mathlib.Core.List.{List}
use Prim.Native.Nat.{ℕ, ◌-◌, ◌≤◌}
use native.Mathlib.Omega.{arith}
use borrow.Author.Rules.{rules}
use lib.ListN.{length, take}
use Rattle.lists.specs.Write.{part}
use Rattle.lists.proofs.Places.{length_part}
use Rattle.items.specs.Items.{area_bytes, parse, items_in, without}
use Rattle.items.proofs.Area.{area-length, read_back, back-good}
use Rattle.items.proofs.ItemLaws.{area-without, sane-without}
use Rattle.area_drop.proofs.Plans.{Sized, sized, unsized}
use Rattle.calls.specs.Gate.{items_of}
use Rattle.gate.proofs.Gates.{passed-sane}
use Rattle.edit.proofs.drop_keys_in.Goals as goal
use Rattle.edit.proofs.drop_keys_in.Goals.{After-write_without_keys-n, In-Some, Start}

-- the items that stay are no longer than all of them
long : (g : _) (b : Start g) (p : List ℕ → Bool) → let a = b.args in
    length (area_bytes (without p (items_in a.place.count (part a.place.start a.place.end a.file.now)))) ≤ a.place.end - a.place.start
long g b p =
    let a = b.args in
    let f = b.requires.0 in
    let s = part a.place.start a.place.end a.file.now in
    omega (arith, area-without p (items_in a.place.count s), area-length a.place.count s f.good, length_part a.place.start a.place.end a.file.now f.within)

pub returns-in_default : goal.returns-in_default
returns-in_default g c =
    let a = c.args in
    absurd (true≢false (sym c.requires.0.good ∙ unsized (without (g.T.KeyTest.test c.args.goes.now)) a.place.count (part a.place.start a.place.end a.file.now) c.in_default.ensures))

-- how many stay
few : (g : _) (c : In-Some g) → let a = c.args in
    Sized (without (g.T.KeyTest.test c.args.goes.now)) a.place.count (part a.place.start a.place.end a.file.now) c.in-Some.left
few g c = let a = c.args in sized (without (g.T.KeyTest.test c.args.goes.now)) a.place.count (part a.place.start a.place.end a.file.now) c.in-Some.left c.in-Some.ensures

pub write_without_keys-n-requires-clause-formed : goal.write_without_keys-n-requires-clause-formed
write_without_keys-n-requires-clause-formed g c = c.requires.0.good

pub write_without_keys-n-requires-clause-room : goal.write_without_keys-n-requires-clause-room
write_without_keys-n-requires-clause-room g c =
    omega (arith, long g (goal.at.write_without_keys-n-requires-clause-room g c).Start (g.T.KeyTest.test c.args.goes.now), c.requires.2)

-- what stands in the array
abbrev array : (g : _) → After-write_without_keys-n g → List ℕ
array g c = c.write_without_keys-n.new.out

stands : (g : _) (c : After-write_without_keys-n g) → let a = c.args in
    let p = g.T.KeyTest.test c.args.goes.now in
    let s = part a.place.start a.place.end a.file.now in
    c.in-Some.left.count ≡ length (without p (items_in a.place.count s))
    → length (area_bytes (without p (items_in a.place.count s))) ≤ a.place.end - a.place.start
    → parse c.in-Some.left.count (take c.write_without_keys-n.result (array g c)) ≡ Some (without p (items_in a.place.count s))
stands g c n l =
    let a = c.args in
    let p = g.T.KeyTest.test a.goes.now in
    let s = part a.place.start a.place.end a.file.now in
    let w = c.write_without_keys-n.ensures in
    let f = c.requires.0 in
    read_back (without p (items_in a.place.count s)) (array g c) _ c.write_without_keys-n.result c.in-Some.left.count w.1 w.0 n
    (sane-without p (items_in a.place.count s) (passed-sane f)) (omega (arith, l, f.short))

pub slice_bounds-finish-end : goal.slice_bounds-finish-end
slice_bounds-finish-end g c =
    let p = g.T.KeyTest.test c.args.goes.now in
    let w = c.write_without_keys-n.ensures in
    let h : c.write_without_keys-n.result ≤ length c.args.new.now = omega (arith, w.0, long g (goal.at.slice_bounds-finish-end g c).Start p, c.requires.2) in
    search rules

pub slice_bounds-finish-end-2 : goal.slice_bounds-finish-end-2
slice_bounds-finish-end-2 g c =
    let p = g.T.KeyTest.test c.args.goes.now in
    let w = c.write_without_keys-n.ensures in
    let h : c.write_without_keys-n.result ≤ length c.args.new.now = omega (arith, w.0, long g (goal.at.slice_bounds-finish-end-2 g c).Start p, c.requires.2) in
    search rules

pub finish-requires : goal.finish-requires
finish-requires g c =
    let p = g.T.KeyTest.test c.args.goes.now in
    let q = goal.at.finish-requires g c in
    let s = stands g q.After-write_without_keys-n (few g q.In-Some).count (long g q.Start p) in
    (c.requires.1, (back-good c.in-Some.left.count (take c.write_without_keys-n.result (array g q.After-write_without_keys-n)) s).0)

pub returns : goal.returns
returns g c =
    let p = g.T.KeyTest.test c.args.goes.now in
    let q = goal.at.returns g c in
    let s = stands g q.After-write_without_keys-n (few g q.In-Some).count (long g q.Start p) in
    let i : items_in c.in-Some.left.count (take c.write_without_keys-n.result (array g q.After-write_without_keys-n)) ≡ without p (items_of c.args.file.now) =
    (back-good c.in-Some.left.count (take c.write_without_keys-n.result (array g q.After-write_without_keys-n)) s).1 ∙ ap (without p) c.requires.0.items in
    rw (← i) c.finish.ensures
