-- One granule after another.
use Rattle.std.proofs.Common.{arith, ◌∙◌, refl, ◌∙◌, ◌+◌, ◌-◌, ◌<◌, ◌/◌, ◌≤◌, length}
use borrow.Author.Tests.{ne_eqb}
use Rattle.layer3.specs.Fields.{read_left, read_right}
use Rattle.layer3.proofs.Places.{fields-are, frame-inside, few-bits, two-granules, one-more, no-granules, first-in, second-in, rest-mono, rest-stereo}
use Rattle.sound_lists.specs.Lists.{filled}
use Rattle.sound_lists.proofs.Puts.{long-some}
use Rattle.sound_lists.proofs.Gets.{stored-one, left-one, right-one, left-two, right-two}
use Rattle.sound_lists.proofs.get_granules.Given.{Over}
use Rattle.sound_lists.proofs.get_granules.Goals as goal
use Rattle.sound_lists.proofs.get_granules.Goals.{In-loop, then-not-this, else-not-this}

pub loop-init : goal.loop-init
loop-init g c =
    let a = c.args in
    let p = c.gain_places-p.ensures in
    (frame-inside a.x.at a.h _ c.requires.2 c.requires.3 p.0 p.1 (omega (arith, p.2)), omega arith, omega arith, (refl, refl), (refl, refl))

-- what a turn needs of its first field
here : (g : Over) (c : In-loop g) → (c.loop.bit / 8 + 1 < length c.args.audio.now) × (c.gain_places-p.result.next ≤ 63) × (c.loop.left_at ≤ 16777218) × (c.loop.right_at ≤ 16777218)
here g c =
    let p = c.gain_places-p.ensures in
    let i = c.loop.invariant in (
      first-in i.0 _ (one-more _ _ c.loop-test.true),
      omega (arith, p.1, few-bits c.args.h),
      omega (arith, i.1, c.loop-test.true, p.2, two-granules c.args.h, c.requires.3, c.requires.4, c.requires.5),
      omega (arith, i.2, c.loop-test.true, p.2, two-granules c.args.h, c.requires.3, c.requires.4, c.requires.6),
    )

pub get_field-left_at-requires : goal.get_field-left_at-requires
get_field-left_at-requires g c = let t = here g (goal.at.get_field-left_at-requires g c).In-loop in (t.0, t.2)

pub overflow_add-bit : goal.overflow_add-bit
overflow_add-bit g c = let (w, x, y, z) = here g (goal.at.overflow_add-bit g c).In-loop in omega (arith, c.requires.4)

pub get_field-right_at-requires : goal.get_field-right_at-requires
get_field-right_at-requires g c =
    let i = (goal.at.get_field-right_at-requires g c).In-loop in
    (second-in c.loop.invariant.0 _ (one-more _ _ c.loop-test.true) (rw c.if-not-this.true at c.requires.1), (here g i).3)

pub overflow_add-bit-then-not-this : goal.overflow_add-bit-then-not-this
overflow_add-bit-then-not-this g c = let (w, x, y, z) = here g (goal.at.overflow_add-bit-then-not-this g c).In-loop in omega (arith, c.requires.4)

pub loop-preserved : goal.loop-preserved
loop-preserved g c =
    let s = c.args.audio.now in
    let (kept, i, k, l, r) = c.loop.invariant in
    let more = one-more _ _ c.loop-test.true in
    let one = c.get_field-left_at.ensures in
    elim c.if-not-this.branch [
      | then-not-this w ↦
          let e = rw w.if-not-this.true at c.requires.1 in
          let two = w.get_field-right_at.ensures in
          let lb : c.get_field-left_at.result ≤ c.args.x.left + (c.loop.counter + 1) = omega (arith, one.0) in
          let rb : w.get_field-right_at.result ≤ c.args.x.right + (c.loop.counter + 1) = omega (arith, two.0) in
          let x = stored-one c.loop.left _ _ _ _ _ _ one (left-two s _ _ c.loop.bit _ _ more e) in
          let y = stored-one c.loop.right _ _ _ _ _ _ two (right-two s _ _ c.loop.bit _ _ more e) in
          rw (w.bit-is, w.right-is, w.right_at-is) (rest-stereo kept _ more e, lb, rb, (x.0 ∙ l.0, x.1 ∙ l.1), (y.0 ∙ r.0, y.1 ∙ r.1))
      | else-not-this w ↦
          let e = rw (ne_eqb _ 0 w.if-not-this.false) at c.requires.1 in
          let lb : c.get_field-left_at.result ≤ c.args.x.left + (c.loop.counter + 1) = omega (arith, one.0) in
          let rb : c.loop.right_at ≤ c.args.x.right + (c.loop.counter + 1) = omega arith in
          let x = stored-one c.loop.left _ _ _ _ _ _ one (left-one s _ _ c.loop.bit _ _ more e) in
          rw (w.bit-is, w.right-is, w.right_at-is, ← right-one s _ _ c.loop.bit _ _ more e) (rest-mono kept _ more e, lb, rb, (x.0 ∙ l.0, x.1 ∙ l.1), r)
    ]

pub returns : goal.returns
unfolding read_left read_right filled
returns g c =
    let a = c.args in
    let p = c.gain_places-p in
    let (kept, i, k, l, r) = c.loop.invariant in
    let none = no-granules (p.result.granules - c.loop.counter) a.h.mono c.loop.bit p.result.next (omega (arith, c.loop-test.false)) in
    let all = fields-are a.x.at a.h _ _ p.ensures.0 p.ensures.1 (p.result.granules - 0) (omega (arith, p.ensures.2)) in
    let long = long-some a.h c.requires.2 in
    let few : c.loop.counter ≤ 2 = omega (arith, p.ensures.2, two-granules a.h, c.loop.auto.counter-end) in
    let l' = rw none at l in
    let r' = rw none at r in
    rw all (refl, omega (arith, c.requires.5), omega (arith, c.requires.6), (omega (arith, l'.0), l'.1), (omega (arith, r'.0), r'.1))
