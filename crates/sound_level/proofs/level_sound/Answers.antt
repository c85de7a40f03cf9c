-- Each answer by the tests that lead to it; the gains move last, in what was written.
use Prim.Native.Nat.{ℕ}
use native.Mathlib.Omega.{arith}
use mathlib.Core.Path.{◌≡◌, refl, sym, ap, ◌∙◌}
use mathlib.Core.Bool.{true}
use mathlib.Core.List.{List, ◌++◌}
use Rattle.std.specs.Prelude.{Err}
use mir.Syntax.{w32}
use mir.Val.{SFits}
use mir.Facts.{to_z-of_z}
use borrow.Author.Rules.{rules}
use borrow.Author.Tests.{not-true, not-false}
use lib.ListN.{length}
use lib.Seq.{length-take-le}
use Rattle.lists.specs.Write.{over}
use Rattle.replies.specs.Refusal.{Plan}
use Rattle.slip.specs.Slip.{is_step}
use Rattle.ape.specs.Tag.{split}
use Rattle.ape_write.specs.Answers.{written_bytes}
use Rattle.ape_replace.proofs.Cutting.{CutsAs, cuts-as}
use Rattle.layer3.specs.Walk.{frames_in, any_frame, any_checksum}
use Rattle.calls.specs.Calls.{Level, adjusted, range_of}
use Rattle.sound_calls.specs.Sound.{audio_of, sound_left, sound_right}
use Rattle.sound_gains.specs.declared.Scan.{Scan}
use Rattle.sound_level.proofs.Sounding.{sound-1, sound-2, sound-2-right, sound-15, sound-16, sound-no, tagged-refused, ended}
use Rattle.gains.specs.Moves.{level_by}
use Rattle.sound_level.proofs.level_sound.Goals as goal
use Rattle.sound_level.proofs.level_sound.Goals.{After-ape_tag_parts-front, After-is_step, After-is_step-2, After-scan_gains-scan, Else-not-is_step, Else-not-is_step-2, Start}

abbrev asked : (b : Start) → Level
asked b = level_by b.args.moves

-- the left step, and the right one
left_step : (c : After-is_step) → c.is_step.result ≡ is_step c.args.moves.left.0
left_step c = let h : SFits w32 c.args.moves.left.0 = search rules in c.is_step.ensures ∙ ap is_step (to_z-of_z h)

right-step : (c : After-is_step-2) → c.is_step-2.result ≡ is_step c.args.moves.right.0
right-step c = let h : SFits w32 c.args.moves.right.0 = search rules in c.is_step-2.ensures ∙ ap is_step (to_z-of_z h)

left-fits : (c : Else-not-is_step) → is_step c.args.moves.left.0 ≡ true
left-fits c = let h : SFits w32 c.args.moves.left.0 = search rules in sym (c.is_step.ensures ∙ ap is_step (to_z-of_z h)) ∙ c.if-not-is_step.false

right-fits : (c : Else-not-is_step-2) → is_step c.args.moves.right.0 ≡ true
right-fits c = let h : SFits w32 c.args.moves.right.0 = search rules in sym (c.is_step-2.ensures ∙ ap is_step (to_z-of_z h)) ∙ c.if-not-is_step-2.false

-- where the audio ends
cuts : (c : After-ape_tag_parts-front) → CutsAs (split c.args.file.now) c.args.file.now c.ape_tag_parts-front.result
cuts c = cuts-as c.args.file.now c.ape_tag_parts-front.result c.ape_tag_parts-front.ensures

-- what the scan found in the audio
record Found (file : List ℕ) (l : Level) (x : Scan) : Type 0 where
  frames-are : x.frames ≡ any_frame (frames_in (audio_of file))
  checksum-is : x.checksum ≡ any_checksum (frames_in (audio_of file))
  range-is : x.range ≡ range_of (adjusted l.mode l.left (sound_left file) ++ adjusted l.mode l.right (sound_right file))

found : (c : After-scan_gains-scan) → Found c.args.file.now (level_by c.args.moves) c.scan_gains-scan.result
found c =
    let k = cuts-as c.args.file.now c.ape_tag_parts-front.result c.ape_tag_parts-front.ensures in
    let e = rw k.front-is at c.scan_gains-scan.ensures in
    record { frames-are = ap (λ (x : Scan). x.frames) e; checksum-is = ap (λ (x : Scan). x.checksum) e; range-is = ap (λ (x : Scan). x.range) e }

pub returns-then-file-gt-FILE_LIMIT : goal.returns-then-file-gt-FILE_LIMIT
returns-then-file-gt-FILE_LIMIT c =
    let g = c.args in
    rw (sound-1 g.file.now (asked (goal.at.returns-then-file-gt-FILE_LIMIT c).Start) (length g.out.now) c.if-file-gt-FILE_LIMIT.true) (refl, refl)

pub returns-then-not-is_step : goal.returns-then-not-is_step
returns-then-not-is_step c =
    let g = c.args in
    rw (sound-2 g.file.now (asked (goal.at.returns-then-not-is_step c).Start) (length g.out.now) c.if-file-gt-FILE_LIMIT.false (sym (left_step (goal.at.returns-then-not-is_step c).After-is_step) ∙ c.if-not-is_step.true)) (refl, refl)

pub returns-then-not-is_step-2 : goal.returns-then-not-is_step-2
returns-then-not-is_step-2 c =
    let g = c.args in
    rw (sound-2-right g.file.now (asked (goal.at.returns-then-not-is_step-2 c).Start) (length g.out.now) c.if-file-gt-FILE_LIMIT.false (left-fits (goal.at.returns-then-not-is_step-2 c).Else-not-is_step) (sym (right-step (goal.at.returns-then-not-is_step-2 c).After-is_step-2) ∙ c.if-not-is_step-2.true)) (refl, refl)

pub scan_gains-scan-requires : goal.scan_gains-scan-requires
scan_gains-scan-requires c =
    let k = cuts (goal.at.scan_gains-scan-requires c).After-ape_tag_parts-front in
    let g = c.args in
    omega (arith, length-take-le c.ape_tag_parts-front.result.front g.file.now k.front-within, c.if-file-gt-FILE_LIMIT.false, k.front-within)

pub returns-then-not-scan : goal.returns-then-not-scan
returns-then-not-scan c =
    let g = c.args in
    let d = found (goal.at.returns-then-not-scan c).After-scan_gains-scan in
    let h = c.if-file-gt-FILE_LIMIT.false in
    let s = left-fits (goal.at.returns-then-not-scan c).Else-not-is_step in
    let t = right-fits (goal.at.returns-then-not-scan c).Else-not-is_step-2 in
    rw (sound-15 g.file.now (asked (goal.at.returns-then-not-scan c).Start) (length g.out.now) h s t (sym d.frames-are ∙ not-true c.scan_gains-scan.result.frames c.if-not-scan.true)) (refl, refl)

pub returns-then-scan : goal.returns-then-scan
returns-then-scan c =
    let g = c.args in
    let d = found (goal.at.returns-then-scan c).After-scan_gains-scan in
    let h = c.if-file-gt-FILE_LIMIT.false in
    let s = left-fits (goal.at.returns-then-scan c).Else-not-is_step in
    let t = right-fits (goal.at.returns-then-scan c).Else-not-is_step-2 in
    rw (sound-16 g.file.now (asked (goal.at.returns-then-scan c).Start) (length g.out.now) h s t (sym d.frames-are ∙ not-false c.scan_gains-scan.result.frames c.if-not-scan.false) (sym d.checksum-is ∙ c.if-scan.true)) (refl, refl)

pub returns-in_err-done : goal.returns-in_err-done
returns-in_err-done c =
    let g = c.args in
    let d = found (goal.at.returns-in_err-done c).After-scan_gains-scan in
    let h = c.if-file-gt-FILE_LIMIT.false in
    let s = left-fits (goal.at.returns-in_err-done c).Else-not-is_step in
    let t = right-fits (goal.at.returns-in_err-done c).Else-not-is_step-2 in
    let f = sym d.frames-are ∙ not-false c.scan_gains-scan.result.frames c.if-not-scan.false in
    let u = sym d.checksum-is ∙ c.if-scan.false in
    let w = c.level_tag.ensures in
    let n = tagged-refused _ _ (sym c.in_err-done.was ∙ w.0) in
    let e : c.from_residual.result ≡ Err c.in_err-done.field-0.0 = search rules in
    rw (e, sound-no g.file.now (asked (goal.at.returns-in_err-done c).Start) (length g.out.now) h s t f u _ d.range-is n) (refl, w.1 ∙ ap (λ (p : Plan (List ℕ)). over (written_bytes p) g.out.now) n)

pub move_front-requires : goal.move_front-requires
move_front-requires c =
    let g = c.args in
    let d = found (goal.at.move_front-requires c).After-scan_gains-scan in
    let h = c.if-file-gt-FILE_LIMIT.false in
    let s = left-fits (goal.at.move_front-requires c).Else-not-is_step in
    let t = right-fits (goal.at.move_front-requires c).Else-not-is_step-2 in
    let k = cuts (goal.at.move_front-requires c).After-ape_tag_parts-front in
    let f = sym d.frames-are ∙ not-false c.scan_gains-scan.result.frames c.if-not-scan.false in
    let u = sym d.checksum-is ∙ c.if-scan.false in
    let w = c.level_tag.ensures in
    let x = ended g.file.now (asked (goal.at.move_front-requires c).Start) (length g.out.now) h s t f u _ d.range-is c.ape_tag_parts-front.result.front k.front-is k.front-within g.out.now _ (sym c.in_ok-done.was ∙ w.0) w.1 in
    (h, k.front-within, x.room-there, x.same-there)

pub returns : goal.returns
returns c =
    let g = c.args in
    let d = found (goal.at.returns c).After-scan_gains-scan in
    let h = c.if-file-gt-FILE_LIMIT.false in
    let s = left-fits (goal.at.returns c).Else-not-is_step in
    let t = right-fits (goal.at.returns c).Else-not-is_step-2 in
    let k = cuts (goal.at.returns c).After-ape_tag_parts-front in
    let f = sym d.frames-are ∙ not-false c.scan_gains-scan.result.frames c.if-not-scan.false in
    let u = sym d.checksum-is ∙ c.if-scan.false in
    let w = c.level_tag.ensures in
    let x = ended g.file.now (asked (goal.at.returns c).Start) (length g.out.now) h s t f u _ d.range-is c.ape_tag_parts-front.result.front k.front-is k.front-within g.out.now _ (sym c.in_ok-done.was ∙ w.0) w.1 in
    rw x.accepted (rw x.answer refl, x.after c.move_front.ensures)

pub level_tag-requires : goal.level_tag-requires
level_tag-requires c =
    (c.if-file-gt-FILE_LIMIT.false, left-fits (goal.at.level_tag-requires c).Else-not-is_step, right-fits (goal.at.level_tag-requires c).Else-not-is_step-2)

pub slice_bounds-scan_gains-end : goal.slice_bounds-scan_gains-end
slice_bounds-scan_gains-end c = let h = (cuts c).front-within in omega (arith, h, length-take-le c.ape_tag_parts-front.result.front c.args.file.now h)
