-- One granule after another.
use Rattle.std.proofs.Common.{arith, refl, ◌∙◌, ◌+◌, ◌-◌, ◌<◌, ◌/◌, ◌≤◌, length}
use borrow.Author.Tests.{ne_eqb}
use Rattle.layer3.specs.Fields.{moved_by}
use Rattle.layer3.proofs.Places.{fields-are, frame-inside, few-bits, one-more, no-granules, first-in, second-in, rest-mono, rest-stereo}
use Rattle.sound_gains.proofs.Moves.{move-one, move-two}
use Rattle.sound_gains.proofs.move_granules.Given.{Over}
use Rattle.sound_gains.proofs.move_granules.Goals as goal
use Rattle.sound_gains.proofs.move_granules.Goals.{In-loop, then-not-this, else-not-this}

pub loop-init : goal.loop-init
loop-init g c =
    let a = c.args in
    let p = c.gain_places-p.ensures in
    (frame-inside a.at a.h _ c.requires.2 c.requires.3 p.0 p.1 (omega (arith, p.2)), refl)

-- what a turn needs of its first field
here : (g : Over) (c : In-loop g) → (c.loop.bit / 8 + 1 < length c.loop.out) × (c.gain_places-p.result.next ≤ 63)
here g c =
    let p = c.gain_places-p.ensures in
    (omega (arith, first-in c.loop.invariant.0 _ (one-more _ _ c.loop-test.true), c.loop.auto.out), omega (arith, p.1, few-bits c.args.h))

pub move_field-requires : goal.move_field-requires
move_field-requires g c = (here g (goal.at.move_field-requires g c).In-loop).0

pub overflow_add-bit : goal.overflow_add-bit
overflow_add-bit g c = let (w, x) = here g (goal.at.overflow_add-bit g c).In-loop in omega (arith, c.loop.auto.out, c.requires.4)

pub move_field-requires-then-not-this : goal.move_field-requires-then-not-this
move_field-requires-then-not-this g c =
    omega (arith, second-in c.loop.invariant.0 _ (one-more _ _ c.loop-test.true) (rw c.if-not-this.true at c.requires.1), c.loop.auto.out, c.move_field.auto.out)

pub overflow_add-bit-then-not-this : goal.overflow_add-bit-then-not-this
overflow_add-bit-then-not-this g c = let (w, x) = here g (goal.at.overflow_add-bit-then-not-this g c).In-loop in omega (arith, c.loop.auto.out, c.requires.4)

pub loop-preserved : goal.loop-preserved
loop-preserved g c =
    let (kept, moved) = c.loop.invariant in
    let more = one-more _ _ c.loop-test.true in
    let one = c.move_field.ensures in
    elim c.if-not-this.branch [
      | then-not-this w ↦
          let e = rw w.if-not-this.true at c.requires.1 in
          rw (w.out-is, w.bit-is, w.move_field-then-not-this.ensures, one) (rest-stereo kept _ more e, move-two _ _ c.loop.bit _ _ more _ _ c.loop.out e ∙ moved)
      | else-not-this w ↦
          let e = rw (ne_eqb _ 0 w.if-not-this.false) at c.requires.1 in
          rw (w.out-is, w.bit-is, one) (rest-mono kept _ more e, move-one _ _ c.loop.bit _ _ more _ _ c.loop.out e ∙ moved)
    ]

pub returns : goal.returns
unfolding moved_by
returns g c =
    let a = c.args in
    let p = c.gain_places-p in
    let none = no-granules (p.result.granules - c.loop.counter) a.h.mono c.loop.bit p.result.next (omega (arith, c.loop-test.false)) in
    let all = fields-are a.at a.h _ _ p.ensures.0 p.ensures.1 (p.result.granules - 0) (omega (arith, p.ensures.2)) in
    rw all (rw none at c.loop.invariant.1)
