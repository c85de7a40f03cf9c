use mathlib.Core.Path.{◌≡◌, sym, ◌∙◌}
use native.Mathlib.Numerals.{add-one}
use native.Mathlib.Omega.{arith}
use lib.ListN.{length, get_or}
use lib.Seq.{paste-zero, paste-suc, take-length}
use Rattle.keys.specs.Keys.{upper_all}
use Rattle.keys.proofs.Keys.{length-upper, get_d-upper, upper-std}
use Rattle.keys.proofs.put_upper.Goals as goal

pub loop-i-init : goal.loop-i-init
loop-i-init c = let g = c.args in paste-zero g.out.now g.at (upper_all g.src.now)

pub loop-i-preserved : goal.loop-i-preserved
loop-i-preserved c =
    let g = c.args in
    let n = length-upper g.src.now in
    let letter : c.to_ascii_uppercase.result ≡ get_or (upper_all g.src.now) c.loop-i.i 0 =
    c.to_ascii_uppercase.ensures.value ∙ upper-std _ ∙ sym (get_d-upper g.src.now c.loop-i.i (omega arith)) in
    rw (c.loop-i.invariant, add-one, letter)
    (paste-suc g.out.now g.at (upper_all g.src.now) c.loop-i.i 0 (omega arith) (omega arith))

pub returns : goal.returns
returns c =
    let s = c.args.src.now in
    let n : c.loop-i.i ≡ length (upper_all s) = let e = length-upper s in omega arith in
    (omega arith, c.loop-i.invariant ∙ rw (n, take-length))
