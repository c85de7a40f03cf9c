use mathlib.Core.Path.{sym}
use mathlib.Core.List.{List, ◌∷◌, []}
use mathlib.Core.Logic.{⊎_elim}
use Prim.Native.Nat.{ℕ}
use native.Mathlib.Omega.{arith}
use lib.ListN.{length}
use Rattle.area_edit.proofs.Plans.{fits-yes, refused, finished}
use Rattle.area_gains.proofs.Plans.{gains-12, gains-4, gains-5, gains-yes, gains-room, gains-long, capped_small}
use Rattle.area_gains.proofs.set_replaygain.Goals as goal
use Rattle.area_gains.proofs.set_replaygain.Goals.{Start}

-- the lent texts
abbrev texts : (b : Start) → List (List ℕ)
texts b = let g = b.args in g.track_gain.now ∷ g.track_peak.now ∷ g.album_gain.now ∷ g.album_peak.now ∷ g.algorithm.now ∷ []

pub returns-then-not-well_formed : goal.returns-then-not-well_formed
returns-then-not-well_formed c =
    let g = c.args in
    refused g.out.now (gains-12 (texts (goal.at.returns-then-not-well_formed c).Start) g.count g.area.now (length g.out.now) (sym c.if-not-well_formed.ensures))

pub returns-then-not-are_utf8 : goal.returns-then-not-are_utf8
returns-then-not-are_utf8 c =
    let g = c.args in
    refused g.out.now (gains-4 (texts (goal.at.returns-then-not-are_utf8 c).Start) g.count g.area.now (length g.out.now) (sym c.if-not-well_formed.ensures) (sym c.if-not-are_utf8.ensures))

pub returns-then-out-size : goal.returns-then-out-size
returns-then-out-size c =
    let g = c.args in
    refused g.out.now (gains-5 (texts (goal.at.returns-then-out-size c).Start) g.count g.area.now (length g.out.now) (sym c.if-not-well_formed.ensures) (sym c.if-not-are_utf8.ensures)
    (⊎_elim (λ h. gains-room _ _ _ c.measure_gains-size.ensures h) (λ h. gains-long _ _ _ c.measure_gains-size.ensures h.1) c.then-out-size.either))

pub write_gains-requires : goal.write_gains-requires
write_gains-requires c =
    let z = capped_small _ _ c.measure_gains-size.ensures c.if-size-gt-FILE_LIMIT.false in
    (sym c.if-not-well_formed.ensures, omega (arith, z, c.if-out-size.false), omega (arith, z, c.if-size-gt-FILE_LIMIT.false))

pub returns : goal.returns
returns c =
    let g = c.args in
    let z = capped_small _ _ c.measure_gains-size.ensures c.if-size-gt-FILE_LIMIT.false in
    let r = c.write_gains.ensures in
    finished g.out.now
    (gains-yes (texts (goal.at.returns c).Start) g.count g.area.now (length g.out.now) (sym c.if-not-well_formed.ensures) (sym c.if-not-are_utf8.ensures)
    (fits-yes _ _ (omega (arith, z, c.if-out-size.false)) (omega (arith, z, c.if-size-gt-FILE_LIMIT.false))))
    r.0 r.1 r.2
