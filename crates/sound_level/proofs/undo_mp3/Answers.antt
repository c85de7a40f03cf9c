-- Each answer by the tests that lead to it; the gains move last, in what was written.
use Prim.Native.Nat.{ℕ}
use native.Mathlib.Omega.{arith}
use mathlib.Core.Path.{◌≡◌, refl, sym, ap, ◌∙◌}
use mathlib.Core.Bool.{true, false}
use mathlib.Core.List.{List}
use mir.Syntax.{w32}
use mir.Val.{SFits}
use mir.Facts.{to_z-of_z}
use borrow.Author.Tests.{not-true, not-false}
use lib.ListN.{length}
use lib.Seq.{length-take-le}
use Rattle.lists.specs.Write.{over}
use Rattle.frame.specs.Gain.{mode_of}
use Rattle.values.proofs.ReadBack.{undo-small}
use Rattle.ape.specs.Tag.{split, replaced}
use Rattle.ape.specs.Answers.{has_room}
use Rattle.ape_replace.proofs.Cutting.{CutsAs, cuts-as}
use Rattle.layer3.specs.Walk.{frames_in, any_frame, any_checksum}
use Rattle.calls.specs.Gate.{items_of}
use Rattle.calls.specs.Calls.{others}
use Rattle.checks.specs.declared.StoredUndo.{StoredUndo}
use Rattle.checks.proofs.Whole.{Undoes, undo-ready, undo-not}
use Rattle.std.specs.Prelude.{Err}
use borrow.Author.Rules.{rules}
use Rattle.undo.proofs.Undoing.{done-fits, refused-room}
use Rattle.sound_gains.specs.declared.Scan.{Scan}
use Rattle.sound_calls.specs.Sound.{audio_of}
use Rattle.sound_level.proofs.Undoing.{undo-1, undo-15, undo-16, undo-refused, undo-5, undo-done, Ends, ended}
use Rattle.sound_level.proofs.undo_mp3.Goals as goal
use Rattle.sound_level.proofs.undo_mp3.Goals.{After-ape_tag_parts-front, After-scan_gains-scan, Else-scan, In_ok-length, In_ok-ready}

-- where the audio ends
cuts : (c : After-ape_tag_parts-front) → CutsAs (split c.args.file.now) c.args.file.now c.ape_tag_parts-front.result
cuts c = cuts-as c.args.file.now c.ape_tag_parts-front.result c.ape_tag_parts-front.ensures

-- what the scan found in the audio
found : (c : After-scan_gains-scan) → (c.scan_gains-scan.result.frames ≡ any_frame (frames_in (audio_of c.args.file.now))) × (c.scan_gains-scan.result.checksum ≡ any_checksum (frames_in (audio_of c.args.file.now)))
found c =
    let k = cuts-as c.args.file.now c.ape_tag_parts-front.result c.ape_tag_parts-front.ensures in
    let e = rw k.front-is at c.scan_gains-scan.ensures in
    (ap (λ (x : Scan). x.frames) e, ap (λ (x : Scan). x.checksum) e)

-- what the check says
abbrev ready : (c : In_ok-ready) → Undoes c.args.file.now true c.in_ok-ready.ready
ready c = undo-ready c.args.file.now true c.in_ok-ready.ensures

pub returns-then-file-gt-FILE_LIMIT : goal.returns-then-file-gt-FILE_LIMIT
returns-then-file-gt-FILE_LIMIT c = let g = c.args in rw (undo-1 g.file.now (length g.out.now) c.if-file-gt-FILE_LIMIT.true) (refl, refl)

pub scan_gains-scan-requires : goal.scan_gains-scan-requires
scan_gains-scan-requires c =
    let k = cuts (goal.at.scan_gains-scan-requires c).After-ape_tag_parts-front in
    let g = c.args in
    omega (arith, length-take-le c.ape_tag_parts-front.result.front g.file.now k.front-within, c.if-file-gt-FILE_LIMIT.false, k.front-within)

pub returns-then-not-scan : goal.returns-then-not-scan
returns-then-not-scan c =
    let g = c.args in
    let d = found (goal.at.returns-then-not-scan c).After-scan_gains-scan in
    let h = c.if-file-gt-FILE_LIMIT.false in
    rw (undo-15 g.file.now (length g.out.now) h (sym d.0 ∙ not-true c.scan_gains-scan.result.frames c.if-not-scan.true)) (refl, refl)

pub returns-then-scan : goal.returns-then-scan
returns-then-scan c =
    let g = c.args in
    let d = found (goal.at.returns-then-scan c).After-scan_gains-scan in
    let h = c.if-file-gt-FILE_LIMIT.false in
    rw (undo-16 g.file.now (length g.out.now) h (sym d.0 ∙ not-false c.scan_gains-scan.result.frames c.if-not-scan.false) (sym d.1 ∙ c.if-scan.true)) (refl, refl)

-- there is a frame, and none with a checksum
framed : (c : Else-scan) → let g = c.args in
    (any_frame (frames_in (audio_of g.file.now)) ≡ true) × (any_checksum (frames_in (audio_of g.file.now)) ≡ false)
framed c =
    let k = cuts-as c.args.file.now c.ape_tag_parts-front.result c.ape_tag_parts-front.ensures in
    let e = rw k.front-is at c.scan_gains-scan.ensures in
    (sym (ap (λ (x : Scan). x.frames) e) ∙ not-false c.scan_gains-scan.result.frames c.if-not-scan.false, sym (ap (λ (x : Scan). x.checksum) e) ∙ c.if-scan.false)

pub returns-in_err-ready : goal.returns-in_err-ready
returns-in_err-ready c =
    let g = c.args in
    let f = framed (goal.at.returns-in_err-ready c).Else-scan in
    let r : c.from_residual.result ≡ Err c.in_err-ready.field-0.0 = search rules in
    rw (r, undo-refused g.file.now (length g.out.now) c.if-file-gt-FILE_LIMIT.false f.0 f.1 (undo-not g.file.now true c.in_err-ready.ensures)) (refl, refl)

pub drop_keys-requires : goal.drop_keys-requires
drop_keys-requires c = let r = ready (goal.at.drop_keys-requires c).In_ok-ready in (r.passed, r.short)

pub returns-in_err-length : goal.returns-in_err-length
unfolding others
returns-in_err-length c =
    let g = c.args in
    let t = ready (goal.at.returns-in_err-length c).In_ok-ready in
    let f = framed (goal.at.returns-in_err-length c).Else-scan in
    let d = c.drop_keys.ensures in
    let (lacks, why, nothing) = refused-room t.passed (length g.out.now) (sym c.in_err-length.was ∙ d.0) in
    let r : c.from_residual-in_err-length.result ≡ Err c.in_err-length.field-0.0 = search rules in
    rw (r, why, undo-5 g.file.now (length g.out.now) t.short f.0 f.1 t.text t.check lacks) (refl, d.1 ∙ ap (λ (w : List ℕ). over w g.out.now) nothing)

-- the file was written, and its gains have yet to move
wrote : (c : In_ok-length) → let g = c.args in
    (has_room (length g.out.now) (length (replaced g.file.now (others (items_of g.file.now)))) ≡ true)
    × Ends g.file.now (undo-ready g.file.now true c.in_ok-ready.ensures).text c.ape_tag_parts-front.result.front c.in_ok-length.length g.out.now c.drop_keys.new.out
unfolding others
wrote c =
    let g = c.args in
    let t = undo-ready g.file.now true c.in_ok-ready.ensures in
    let cut = cuts-as g.file.now c.ape_tag_parts-front.result c.ape_tag_parts-front.ensures in
    let d = c.drop_keys.ensures in
    let (fits, n, by) = done-fits t.passed (length g.out.now) (sym c.in_ok-length.was ∙ d.0) in
    (fits, ended g.file.now t.text c.ape_tag_parts-front.result.front _ cut.front-is cut.front-within g.out.now _ n (d.1 ∙ ap (λ (w : List ℕ). over w g.out.now) by))

pub move_front-requires : goal.move_front-requires
move_front-requires c =
    let x = (wrote (goal.at.move_front-requires c).In_ok-length).1 in
    ((ready (goal.at.move_front-requires c).In_ok-ready).short, (cuts (goal.at.move_front-requires c).After-ape_tag_parts-front).front-within, x.room-there, x.same-there)

pub returns : goal.returns
returns c =
    let g = c.args in
    let t = ready (goal.at.returns c).In_ok-ready in
    let w = wrote (goal.at.returns c).In_ok-length in
    let f = framed (goal.at.returns c).Else-scan in
    let x = w.1 in
    let l = ap (λ (u : StoredUndo). u.left) t.said-is in
    let r = ap (λ (u : StoredUndo). u.right) t.said-is in
    let m = c.from_wrap.ensures ∙ ap (λ (u : StoredUndo). mode_of u.wrap) t.said-is in
    let hl : SFits w32 c.in_ok-ready.ready.undo.left = rw l (record { sfits = (undo-small t.text).0 }) in
    let hr : SFits w32 c.in_ok-ready.ready.undo.right = rw r (record { sfits = (undo-small t.text).1 }) in
    rw (undo-done g.file.now (length g.out.now) t.short f.0 f.1 t.text t.check w.0)
    (rw x.length-is refl, x.after _ _ _ m (to_z-of_z hl ∙ l) (to_z-of_z hr ∙ r) c.move_front.ensures)

pub slice_bounds-scan_gains-end : goal.slice_bounds-scan_gains-end
slice_bounds-scan_gains-end c = let h = (cuts c).front-within in omega (arith, h, length-take-le c.ape_tag_parts-front.result.front c.args.file.now h)
