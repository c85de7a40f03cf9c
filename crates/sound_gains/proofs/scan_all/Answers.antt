use Prim.Native.Nat.{ℕ, ◌≤◌, max}
use native.Mathlib.Omega.{arith}
use mathlib.Core.Path.{◌≡◌, refl, sym, ap, ◌∙◌}
use borrow.Author.Rules.{rules}
use lib.ListN.{length}
use Rattle.frame.specs.Gain.{adjust}
use Rattle.layer3.specs.Fields.{moved_gains}
use Rattle.layer3.specs.Walk.{walk, frames_in, fields_of, fields_in, any_frame, any_checksum}
use Rattle.calls.specs.Calls.{least, greatest}
use Rattle.sound_gains.proofs.Ranges.{least-all, least-sides, greatest-sides, end-frames, end-checksum, end-least, end-greatest}
use Rattle.sound_gains.proofs.scan_all.Goals as goal

-- The invariant: what was found and what is left are what there is.
none-higher : (n : ℕ) → max 0 n ≡ n
none-higher n = omega arith

pub scan_at-x-requires : goal.scan_at-x-requires
scan_at-x-requires c = let p = c.requires in (p.0, c.loop-x-test.true, p.1)

pub loop-x-preserved : goal.loop-x-preserved
loop-x-preserved c =
    let t = c.scan_at-x.ensures in
    let i = c.loop-x.invariant in
    (t.1 ∙ i.0, t.2 ∙ i.1, t.3 ∙ i.2, t.4 ∙ i.3)

pub returns : goal.returns
unfolding frames_in
returns c =
    let g = c.args in
    let a = g.audio.now in
    let f = adjust g.moves.mode g.moves.left.0 in
    let h = adjust g.moves.mode g.moves.right.0 in
    let x = c.loop-x.x in
    let i = c.loop-x.invariant in
    let w = c.walk_start.ensures in
    let ends : length a ≤ x.at = omega arith in
    let some : x.found.range.least ≤ 255 = search rules in
    let frames = sym (end-frames f h a x ends) ∙ i.0 ∙ ap (λ (n : ℕ). any_frame (walk (length a) a n)) w in
    let checksum = sym (end-checksum f h a x ends) ∙ i.1 ∙ ap (λ (n : ℕ). any_checksum (walk (length a) a n)) w in
    let low = sym (end-least f h a x ends some) ∙ i.2 ∙ least-all _ ∙ ap (λ (n : ℕ). least (moved_gains f h (fields_of (walk (length a) a n)) a)) w ∙ least-sides f h (fields_in a) a in
    let high = sym (end-greatest f h a x ends) ∙ i.3 ∙ none-higher _ ∙ ap (λ (n : ℕ). greatest (moved_gains f h (fields_of (walk (length a) a n)) a)) w ∙ greatest-sides f h (fields_in a) a in
    rw (← frames, ← checksum, ← low, ← high)

pub loop-x-init : goal.loop-x-init
loop-x-init c = (refl, refl, refl, refl)

pub loop-x-smaller : goal.loop-x-smaller
loop-x-smaller c = omega (arith, c.scan_at-x.ensures.0)
