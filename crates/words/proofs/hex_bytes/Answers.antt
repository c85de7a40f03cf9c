use native.Mathlib.Omega.{arith}
use mathlib.Core.Path.{◌≡◌, sym, ◌∙◌}
use lib.ListN.{length, drop}
use Rattle.std.specs.Prelude.{Some}
use Rattle.words.specs.Words.{hex_byte, hex_bytes}
use Rattle.words.proofs.Hex.{no_more, one_more, next, one-put, all, done}
use Rattle.words.proofs.hex_bytes.Goals as goal

pub returns-in_default : goal.returns-in_default
returns-in_default c =
    let g = c.args in
    let l = c.loop-n in
    let w = hex_bytes (drop g.at g.text.now) in
    let e : drop l.n w ≡ _ = l.invariant.2 ∙ no_more (drop l.i g.text.now) (sym c.hex_byte.ensures ∙ c.in_default.is) in
    done w l.n g.out.now l.out l.invariant.1 (omega (arith, all w l.n l.invariant.0 e))

pub loop-n-preserved : goal.loop-n-preserved
loop-n-preserved c =
    let g = c.args in
    let l = c.loop-n in
    let w = hex_bytes (drop g.at g.text.now) in
    let h : hex_byte (drop l.i g.text.now) ≡ Some c.in-Some.b = sym c.hex_byte.ensures ∙ c.in-Some.is in
    let x = next w l.n _ _ (l.invariant.2 ∙ one_more g.text.now l.i h) in (
      omega (arith, x.0),
      rw (← x.1, l.invariant.1) (one-put w l.n g.out.now (omega arith) x.0),
      x.2,
    )

pub returns : goal.returns
returns c =
    let g = c.args in
    let l = c.loop-n in
    let n : length l.out ≡ l.n = omega arith in
    rw n (done (hex_bytes (drop g.at g.text.now)) l.n g.out.now l.out l.invariant.1 (omega arith))
