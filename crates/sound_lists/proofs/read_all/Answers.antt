use Prim.Native.Nat.{ℕ, ◌+◌}
use native.Mathlib.Omega.{arith}
use mathlib.Core.Path.{◌≡◌, refl, sym, ap, ◌∙◌}
use lib.ListN.{length}
use Rattle.layer3.specs.Walk.{frames_in}
use Rattle.sound_lists.specs.Lists.{filled, lefts_from, rights_from}
use Rattle.sound_lists.proofs.Gets.{left_end, right_end}
use Rattle.sound_lists.proofs.read_all.Goals as goal

pub get_at-x-requires : goal.get_at-x-requires
get_at-x-requires c =
    let p = c.requires in
    let i = c.loop-x.invariant in
    (p.0, c.loop-x-test.true, p.1, i.0, i.1)

pub loop-x-preserved : goal.loop-x-preserved
loop-x-preserved c =
    let t = c.get_at-x.ensures in
    let k = c.get_at-x.auto in
    let i = c.loop-x.invariant in
    (t.1, t.2, (t.3.0 ∙ i.2.0, t.3.1 ∙ i.2.1), (t.4.0 ∙ i.3.0, t.4.1 ∙ i.3.1), k.left ∙ i.4, k.right ∙ i.5)

none_before : (n : ℕ) → 0 + n ≡ n
none_before n = omega arith

pub returns : goal.returns
unfolding frames_in
returns c =
    let g = c.args in
    let a = g.audio.now in
    let x = c.loop-x.x in
    let i = c.loop-x.invariant in
    let w = c.walk_start.ensures in
    let u = left_end a x.at c.loop-x-test.false c.loop-x.left x.left in
    let v = right_end a x.at c.loop-x-test.false c.loop-x.right x.right in (
      (sym u.0 ∙ i.2.0 ∙ none_before _ ∙ ap (λ (n : ℕ). length (lefts_from a n)) w, sym u.1 ∙ i.2.1 ∙ ap (λ (n : ℕ). filled g.left.now 0 (lefts_from a n)) w),
      (sym v.0 ∙ i.3.0 ∙ none_before _ ∙ ap (λ (n : ℕ). length (rights_from a n)) w, sym v.1 ∙ i.3.1 ∙ ap (λ (n : ℕ). filled g.right.now 0 (rights_from a n)) w),
    )

pub loop-x-init : goal.loop-x-init
loop-x-init c = (omega arith, omega arith, (refl, refl), (refl, refl), refl, refl)

pub loop-x-smaller : goal.loop-x-smaller
loop-x-smaller c = omega (arith, c.get_at-x.ensures.0)
