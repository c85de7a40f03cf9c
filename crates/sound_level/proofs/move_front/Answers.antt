-- What comes back of the part stands before the rest.
use Prim.Native.Nat.{ℕ}
use native.Mathlib.Omega.{arith}
use mathlib.Core.Path.{◌≡◌, sym, ap, ◌∙◌}
use mathlib.Core.List.{List, ◌++◌}
use lib.ListN.{length, take, drop}
use lib.Seq.{length-take-le}
use Rattle.layer3.specs.Walk.{left_gains, right_gains, with_gains}
use Rattle.layer3.proofs.Audio.{length-audio}
use Rattle.calls.specs.Calls.{adjusted}
use Rattle.sound_level.proofs.move_front.Goals as goal

pub move_gains-requires : goal.move_gains-requires
move_gains-requires c =
    let g = c.args in
    let l = length-take-le g.front g.file.now c.requires.1 in
    (c.requires.3, omega (arith, l, c.requires.0, c.requires.1))

pub returns : goal.returns
returns c =
    let g = c.args in
    let a = take g.front g.file.now in
    let ls = adjusted g.moves.mode g.moves.left.0 (left_gains a) in
    let rs = adjusted g.moves.mode g.moves.right.0 (right_gains a) in
    let l : length (with_gains a ls rs) ≡ g.front = length-audio a ls rs ∙ length-take-le g.front g.file.now c.requires.1 in
    let e : c.move_gains.new.out ≡ with_gains a ls rs = c.move_gains.ensures in
    ap (λ (w : List ℕ). w ++ drop g.front g.out.now) e ∙ ap (λ (n : ℕ). with_gains a ls rs ++ drop n g.out.now) (sym l)
