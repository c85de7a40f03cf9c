use mathlib.Core.Path.{◌≡◌, sym, ap, ◌∙◌}
use Prim.Native.Nat.{ℕ, ◌-◌}
use mathlib.Core.Bool.{Bool, true, false}
use native.Mathlib.Omega.{arith}
use borrow.Author.Rules.{rules}
use lib.ListN.{take}
use Rattle.frame.specs.Tail.{ends_with_id3v1}
use Rattle.ape_replace.proofs.Cutting.{audio-block, audio-plain, block-long}
use Rattle.ape_replace.proofs.cut_audio.Goals as goal
use Rattle.ape_replace.proofs.cut_audio.Goals.{After-ends_with_id3v1}

-- the test, on the part of the file that the code lends
tested : (c : After-ends_with_id3v1) → (t : Bool) → c.ends_with_id3v1.result ≡ t → ends_with_id3v1 (take c.args.end c.args.file.now) ≡ t
tested c t e =
    let g = c.args in
    let z : g.end - 0 ≡ g.end = omega arith in
    ap (λ (n : ℕ). ends_with_id3v1 (take n g.file.now)) (sym z) ∙ sym c.ends_with_id3v1.ensures ∙ e

pub overflow_sub-front : goal.overflow_sub-front
overflow_sub-front c = omega (arith, block-long c.args.file.now c.args.end c.requires (tested (goal.at.overflow_sub-front c).After-ends_with_id3v1 true c.if-ends_with_id3v1.true))

pub returns-then-ends_with_id3v1 : goal.returns-then-ends_with_id3v1
returns-then-ends_with_id3v1 c = let g = c.args in audio-block g.file.now g.end (tested (goal.at.returns-then-ends_with_id3v1 c).After-ends_with_id3v1 true c.if-ends_with_id3v1.true)

pub returns : goal.returns
returns c = let g = c.args in audio-plain g.file.now g.end (tested (goal.at.returns c).After-ends_with_id3v1 false c.if-ends_with_id3v1.false)
