-- One granule after another.
use Rattle.std.proofs.Common.{arith, refl, ◌∙◌, ◌+◌, ◌-◌, ◌<◌, ◌/◌, ◌≤◌, length}
use borrow.Author.Tests.{ne_eqb}
use Rattle.layer3.proofs.Places.{fields-are, frame-inside, few-bits, one-more, no-granules, first-in, second-in, rest-mono, rest-stereo}
use Rattle.sound_lists.proofs.Puts.{given-one, given-two}
use Rattle.sound_lists.proofs.put_granules.Given.{Over}
use Rattle.sound_lists.proofs.put_granules.Goals as goal
use Rattle.sound_lists.proofs.put_granules.Goals.{In-loop, then-not-this, else-not-this}

pub loop-init : goal.loop-init
loop-init g c =
    let a = c.args in
    let p = c.gain_places-p.ensures in
    (frame-inside a.x.at a.h _ c.requires.2 c.requires.3 p.0 p.1 (omega (arith, p.2)), λ fs. refl)

-- what a turn needs of its first field
here : (g : Over) (c : In-loop g) → (c.loop.bit / 8 + 1 < length c.loop.out) × (c.gain_places-p.result.next ≤ 63)
here g c =
    let p = c.gain_places-p.ensures in
    (omega (arith, first-in c.loop.invariant.0 _ (one-more _ _ c.loop-test.true), c.loop.auto.out), omega (arith, p.1, few-bits c.args.h))

pub put_field-left_at-requires : goal.put_field-left_at-requires
put_field-left_at-requires g c = (here g (goal.at.put_field-left_at-requires g c).In-loop).0

pub overflow_add-bit : goal.overflow_add-bit
overflow_add-bit g c = let (w, x) = here g (goal.at.overflow_add-bit g c).In-loop in omega (arith, c.loop.auto.out, c.requires.4)

pub put_field-right_at-requires : goal.put_field-right_at-requires
put_field-right_at-requires g c =
    omega (arith, second-in c.loop.invariant.0 _ (one-more _ _ c.loop-test.true) (rw c.if-not-this.true at c.requires.1), c.loop.auto.out, c.put_field-left_at.auto.out)

pub overflow_add-bit-then-not-this : goal.overflow_add-bit-then-not-this
overflow_add-bit-then-not-this g c = let (w, x) = here g (goal.at.overflow_add-bit-then-not-this g c).In-loop in omega (arith, c.loop.auto.out, c.requires.4)

pub loop-preserved : goal.loop-preserved
loop-preserved g c =
    let a = c.args in
    let (kept, put) = c.loop.invariant in
    let more = one-more _ _ c.loop-test.true in
    let one = c.put_field-left_at.ensures in
    elim c.if-not-this.branch [
      | then-not-this w ↦
          let e = rw w.if-not-this.true at c.requires.1 in
          let two = w.put_field-right_at.ensures in
          rw (w.out-is, w.bit-is, w.right_at-is) (rest-stereo kept _ more e, λ fs. given-two _ _ c.loop.bit _ _ more _ _ c.loop.out _ one.0 one.1 fs e _ _ _ two.0 two.1 ∙ put fs)
      | else-not-this w ↦
          let e = rw (ne_eqb _ 0 w.if-not-this.false) at c.requires.1 in
          rw (w.out-is, w.bit-is, w.right_at-is) (rest-mono kept _ more e, λ fs. given-one _ _ c.loop.bit _ _ more _ _ c.loop.out _ one.0 one.1 fs e _ ∙ put fs)
    ]

pub returns : goal.returns
returns g c =
    let a = c.args in
    let p = c.gain_places-p in
    let none = no-granules (p.result.granules - c.loop.counter) a.h.mono c.loop.bit p.result.next (omega (arith, c.loop-test.false)) in
    let all = fields-are a.x.at a.h _ _ p.ensures.0 p.ensures.1 (p.result.granules - 0) (omega (arith, p.ensures.2)) in
    (refl, λ fs. rw all (rw none at c.loop.invariant.1 fs))
