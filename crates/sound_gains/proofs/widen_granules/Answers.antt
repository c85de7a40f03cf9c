-- One granule after another.
use Rattle.std.proofs.Common.{arith, refl, ◌+◌, ◌-◌, ◌<◌, ◌/◌, ◌≤◌, length}
use borrow.Author.Tests.{ne_eqb}
use borrow.Author.Rules.{rules}
use Rattle.frame.specs.Gain.{adjust}
use Rattle.layer3.specs.Fields.{moved_gains}
use Rattle.layer3.proofs.Places.{fields-are, frame-inside, few-bits, one-more, no-granules, first-in, second-in, rest-mono, rest-stereo}
use Rattle.calls.specs.Calls.{least, greatest}
use Rattle.sound_gains.proofs.Ranges.{least-one, greatest-one, least-two, greatest-two}
use Rattle.sound_gains.proofs.widen_granules.Given.{Over}
use Rattle.sound_gains.proofs.widen_granules.Goals as goal
use Rattle.sound_gains.proofs.widen_granules.Goals.{In-loop, then-not-this, else-not-this}

pub loop-init : goal.loop-init
loop-init g c =
    let a = c.args in
    let p = c.gain_places-p.ensures in
    (frame-inside a.at a.h _ c.requires.2 c.requires.3 p.0 p.1 (omega (arith, p.2)), search rules, refl, refl)

-- what a turn needs of its first field
here : (g : Over) (c : In-loop g) → (c.loop.bit / 8 + 1 < length c.args.audio.now) × (c.gain_places-p.result.next ≤ 63)
here g c =
    let p = c.gain_places-p.ensures in
    (first-in c.loop.invariant.0 _ (one-more _ _ c.loop-test.true), omega (arith, p.1, few-bits c.args.h))

pub widen_field-wider-requires : goal.widen_field-wider-requires
widen_field-wider-requires g c = (here g (goal.at.widen_field-wider-requires g c).In-loop).0

pub overflow_add-bit : goal.overflow_add-bit
overflow_add-bit g c = let (w, x) = here g (goal.at.overflow_add-bit g c).In-loop in omega (arith, c.requires.4)

pub widen_field-wider-requires-then-not-this : goal.widen_field-wider-requires-then-not-this
widen_field-wider-requires-then-not-this g c =
    second-in c.loop.invariant.0 _ (one-more _ _ c.loop-test.true) (rw c.if-not-this.true at c.requires.1)

pub overflow_add-bit-then-not-this : goal.overflow_add-bit-then-not-this
overflow_add-bit-then-not-this g c = let (w, x) = here g (goal.at.overflow_add-bit-then-not-this g c).In-loop in omega (arith, c.requires.4)

pub loop-preserved : goal.loop-preserved
loop-preserved g c =
    let s = c.args.audio.now in
    let f = adjust c.args.moves.mode c.args.moves.left.0 in
    let h = adjust c.args.moves.mode c.args.moves.right.0 in
    let (kept, small, low, high) = c.loop.invariant in
    let more = one-more _ _ c.loop-test.true in
    let one = c.widen_field-wider.ensures in
    elim c.if-not-this.branch [
      | then-not-this w ↦
          let e = rw w.if-not-this.true at c.requires.1 in
          let two = w.widen_field-wider-then-not-this.ensures in
          let l = least-two _ _ c.loop.bit c.gain_places-p.result.next _ more f h s e in
          let k = greatest-two _ _ c.loop.bit c.gain_places-p.result.next _ more f h s e in
          rw (w.bit-is, w.wider-is) (rest-stereo kept _ more e, omega (arith, one.0, two.0), omega (arith, one.0, two.0, l, low), omega (arith, one.1, two.1, k, high))
      | else-not-this w ↦
          let e = rw (ne_eqb _ 0 w.if-not-this.false) at c.requires.1 in
          let l = least-one _ _ c.loop.bit c.gain_places-p.result.next _ more f h s e in
          let k = greatest-one _ _ c.loop.bit c.gain_places-p.result.next _ more f h s e in
          rw (w.bit-is, w.wider-is) (rest-mono kept _ more e, omega (arith, one.0), omega (arith, one.0, l, low), omega (arith, one.1, k, high))
    ]

pub returns : goal.returns
unfolding moved_gains least greatest
returns g c =
    let a = c.args in
    let p = c.gain_places-p in
    let (kept, small, low, high) = c.loop.invariant in
    let none = no-granules (p.result.granules - c.loop.counter) a.h.mono c.loop.bit p.result.next (omega (arith, c.loop-test.false)) in
    let all = fields-are a.at a.h _ _ p.ensures.0 p.ensures.1 (p.result.granules - 0) (omega (arith, p.ensures.2)) in
    let l = rw none at low in
    let k = rw none at high in
    rw all (omega (arith, l), omega (arith, k))
