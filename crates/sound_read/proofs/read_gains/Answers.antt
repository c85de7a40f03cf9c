-- Each answer by the tests that lead to it.
use Rattle.std.specs.Prelude.{Ok}
use Prim.Native.Nat.{ℕ}
use native.Mathlib.Omega.{arith}
use mathlib.Core.Path.{◌≡◌, refl, sym, ap, ◌∙◌}
use mathlib.Core.List.{List}
use borrow.Author.Tests.{not-true, not-false}
use lib.Seq.{length-take-le}
use Rattle.ape.specs.Tag.{split}
use Rattle.ape_replace.proofs.Cutting.{CutsAs, cuts-as}
use Rattle.layer3.specs.Walk.{frames_in, any_frame, any_checksum}
use Rattle.sound_gains.specs.declared.Scan.{Scan}
use Rattle.sound_calls.specs.Sound.{audio_of}
use Rattle.sound_read.proofs.Reading.{read-1, read-15, read-16, read_done}
use Rattle.sound_read.proofs.read_gains.Goals as goal
use Rattle.sound_read.proofs.read_gains.Goals.{After-ape_tag_parts-front, After-scan_gains-scan}

-- where the audio ends
cuts : (c : After-ape_tag_parts-front) → CutsAs (split c.args.file.now) c.args.file.now c.ape_tag_parts-front.result
cuts c = cuts-as c.args.file.now c.ape_tag_parts-front.result c.ape_tag_parts-front.ensures

-- what the scan found in the audio
record Found (file : List ℕ) (x : Scan) : Type 0 where
  frames-are : x.frames ≡ any_frame (frames_in (audio_of file))
  checksum-is : x.checksum ≡ any_checksum (frames_in (audio_of file))

found : (c : After-scan_gains-scan) → Found c.args.file.now c.scan_gains-scan.result
found c =
    let k = cuts-as c.args.file.now c.ape_tag_parts-front.result c.ape_tag_parts-front.ensures in
    let e = rw k.front-is at c.scan_gains-scan.ensures in
    record { frames-are = ap (λ (x : Scan). x.frames) e; checksum-is = ap (λ (x : Scan). x.checksum) e }

pub returns-then-file-gt-FILE_LIMIT : goal.returns-then-file-gt-FILE_LIMIT
returns-then-file-gt-FILE_LIMIT c = let g = c.args in rw (read-1 g.file.now c.if-file-gt-FILE_LIMIT.true) (refl, refl, refl)

pub scan_gains-scan-requires : goal.scan_gains-scan-requires
scan_gains-scan-requires c =
    let k = cuts (goal.at.scan_gains-scan-requires c).After-ape_tag_parts-front in
    let g = c.args in
    omega (arith, length-take-le c.ape_tag_parts-front.result.front g.file.now k.front-within, c.if-file-gt-FILE_LIMIT.false, k.front-within)

pub returns-then-not-scan : goal.returns-then-not-scan
returns-then-not-scan c =
    let g = c.args in
    rw (read-15 g.file.now c.if-file-gt-FILE_LIMIT.false (sym (found (goal.at.returns-then-not-scan c).After-scan_gains-scan).frames-are ∙ not-true c.scan_gains-scan.result.frames c.if-not-scan.true)) (refl, refl, refl)

pub returns-then-scan : goal.returns-then-scan
returns-then-scan c =
    let g = c.args in
    rw (read-16 g.file.now c.if-file-gt-FILE_LIMIT.false (sym (found (goal.at.returns-then-scan c).After-scan_gains-scan).frames-are ∙ not-false c.scan_gains-scan.result.frames c.if-not-scan.false) (sym (found (goal.at.returns-then-scan c).After-scan_gains-scan).checksum-is ∙ c.if-scan.true)) (refl, refl, refl)

pub read_gains-requires : goal.read_gains-requires
read_gains-requires c =
    let k = cuts (goal.at.read_gains-requires c).After-ape_tag_parts-front in
    let g = c.args in
    omega (arith, length-take-le c.ape_tag_parts-front.result.front g.file.now k.front-within, c.if-file-gt-FILE_LIMIT.false, k.front-within)

pub returns : goal.returns
returns c =
    let g = c.args in
    let k = cuts (goal.at.returns c).After-ape_tag_parts-front in
    let e = rw k.front-is at c.read_gains.ensures in
    rw
    (read_done g.file.now c.if-file-gt-FILE_LIMIT.false (sym (found (goal.at.returns c).After-scan_gains-scan).frames-are ∙ not-false c.scan_gains-scan.result.frames c.if-not-scan.false) (sym (found (goal.at.returns c).After-scan_gains-scan).checksum-is ∙ c.if-scan.false))
    (λ i. Ok (record { left = e.0.0 i; right = e.1.0 i }), e.0.1, e.1.1)

pub slice_bounds-scan_gains-end : goal.slice_bounds-scan_gains-end
slice_bounds-scan_gains-end c = let h = (cuts c).front-within in omega (arith, h, length-take-le c.ape_tag_parts-front.result.front c.args.file.now h)

pub slice_bounds-read_gains-end : goal.slice_bounds-read_gains-end
slice_bounds-read_gains-end c =
    let h = (cuts (goal.at.slice_bounds-read_gains-end c).After-ape_tag_parts-front).front-within in
    omega (arith, h, length-take-le c.ape_tag_parts-front.result.front c.args.file.now h)
