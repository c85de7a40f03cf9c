-- The items that stay are written into the lent array, and read back from it.
use mathlib.Core.Path.{◌≡◌, sym, ap, ◌∙◌}
use mathlib.Core.Bool.{Bool, true≢false}
use Rattle.std.specs.Prelude.{Some}
use mathlib.Core.List.{List}
use Prim.Native.Nat.{ℕ, ◌-◌, ◌≤◌}
use native.Mathlib.Omega.{arith}
use borrow.Author.Rules.{rules}
use lib.ListN.{length, take}
use Rattle.std.specs.Fn.{FnReturnsAt}
use Rattle.lists.specs.Write.{part}
use Rattle.lists.proofs.Places.{length_part}
use Rattle.items.specs.Items.{area_bytes, parse, items_in, without}
use Rattle.items.proofs.Area.{area-length, read_back, back-good}
use Rattle.items.proofs.ItemLaws.{area-without, sane-without}
use Rattle.area_drop.specs.Drops.{Tests}
use Rattle.area_drop.proofs.Plans.{Sized, sized, unsized}
use Rattle.calls.specs.Gate.{items_of}
use Rattle.gate.proofs.Gates.{passed-sane}
use Rattle.edit.proofs.drop_items_in.Goals as goal
use Rattle.edit.proofs.drop_items_in.Goals.{After-write_without-to, In-Some, Start}

-- the items that stay are no longer than all of them
long : (g : _) (b : Start g) (p : List ℕ → Bool) → let a = b.args in
    length (area_bytes (without p (items_in a.place.count (part a.place.start a.place.end a.file.now)))) ≤ a.place.end - a.place.start
long g b p =
    let a = b.args in
    let f = b.requires.fit.0 in
    let s = part a.place.start a.place.end a.file.now in
    omega (arith, area-without p (items_in a.place.count s), area-length a.place.count s f.good, length_part a.place.start a.place.end a.file.now f.within)

pub returns-in_default : goal.returns-in_default
returns-in_default g c p h =
    let a = c.args in
    absurd (true≢false (sym c.requires.fit.0.good ∙ unsized (without p) a.place.count (part a.place.start a.place.end a.file.now) (c.in_default.ensures p h)))

-- how many stay
few : (g : _) (c : In-Some g) (p : List ℕ → Bool) → Tests (FnReturnsAt g.F.Fn c.args.goes) p → let a = c.args in
    Sized (without p) a.place.count (part a.place.start a.place.end a.file.now) c.in-Some.left
few g c p h = let a = c.args in sized (without p) a.place.count (part a.place.start a.place.end a.file.now) c.in-Some.left (c.in-Some.ensures p h)

pub write_without-to-requires-clause-formed : goal.write_without-to-requires-clause-formed
write_without-to-requires-clause-formed g c = c.requires.fit.0.good

pub write_without-to-requires-clause-room : goal.write_without-to-requires-clause-room
write_without-to-requires-clause-room g c =
    let (p, h) = c.requires.tests in
    (p, h, omega (arith, long g (goal.at.write_without-to-requires-clause-room g c).Start p, c.requires.fit.2))

-- what stands in the array
abbrev array : (g : _) → After-write_without-to g → List ℕ
array g c = c.write_without-to.new.out

stands : (g : _) (c : After-write_without-to g) (p : List ℕ → Bool) → Tests (FnReturnsAt g.F.Fn c.args.goes) p → let a = c.args in
    let s = part a.place.start a.place.end a.file.now in
    c.in-Some.left.count ≡ length (without p (items_in a.place.count s))
    → length (area_bytes (without p (items_in a.place.count s))) ≤ a.place.end - a.place.start
    → parse c.in-Some.left.count (take c.write_without-to.result (array g c)) ≡ Some (without p (items_in a.place.count s))
stands g c p h n l =
    let a = c.args in
    let s = part a.place.start a.place.end a.file.now in
    let w = c.write_without-to.ensures p h in
    let f = c.requires.fit.0 in
    read_back (without p (items_in a.place.count s)) (array g c) _ c.write_without-to.result c.in-Some.left.count w.1 w.0 n
    (sane-without p (items_in a.place.count s) (passed-sane f)) (omega (arith, l, f.short))

pub slice_bounds-finish-end : goal.slice_bounds-finish-end
slice_bounds-finish-end g c =
    let (p, t) = c.requires.tests in
    let w = c.write_without-to.ensures p t in
    let h : c.write_without-to.result ≤ length c.args.new.now = omega (arith, w.0, long g (goal.at.slice_bounds-finish-end g c).Start p, c.requires.fit.2) in
    search rules

pub slice_bounds-finish-end-2 : goal.slice_bounds-finish-end-2
slice_bounds-finish-end-2 g c =
    let (p, t) = c.requires.tests in
    let w = c.write_without-to.ensures p t in
    let h : c.write_without-to.result ≤ length c.args.new.now = omega (arith, w.0, long g (goal.at.slice_bounds-finish-end-2 g c).Start p, c.requires.fit.2) in
    search rules

pub finish-requires : goal.finish-requires
finish-requires g c =
    let (p, h) = c.requires.tests in
    let q = goal.at.finish-requires g c in
    let s = stands g q.After-write_without-to p h (few g q.In-Some p h).count (long g q.Start p) in
    (c.requires.fit.1, (back-good c.in-Some.left.count (take c.write_without-to.result (array g q.After-write_without-to)) s).0)

pub returns : goal.returns
returns g c p h =
    let q = goal.at.returns g c in
    let s = stands g q.After-write_without-to p h (few g q.In-Some p h).count (long g q.Start p) in
    let i : items_in c.in-Some.left.count (take c.write_without-to.result (array g q.After-write_without-to)) ≡ without p (items_of c.args.file.now) =
    (back-good c.in-Some.left.count (take c.write_without-to.result (array g q.After-write_without-to)) s).1 ∙ ap (without p) c.requires.fit.0.items in
    rw (← i) c.finish.ensures
