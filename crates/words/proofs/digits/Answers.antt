use Prim.Native.Nat.{ℕ, ◌*◌, ◌+◌, ◌%◌}
use native.Mathlib.Nat.{mod-eq_of_lt}
use native.Mathlib.Omega.{arith}
use mathlib.Core.Path.{◌≡◌, sym, ap, ◌∙◌}
use lib.ListN.{drop, get_or}
use Rattle.std.specs.Prelude.{Some}
use Rattle.words.specs.Words.{digit}
use Rattle.words.proofs.Numbers.{at-end, none, other, one_more, alike, last_digits, room}
use Rattle.words.proofs.digits.Goals as goal

pub returns-in_default : goal.returns-in_default
returns-in_default c =
    let g = c.args in
    let l = c.loop-i in
    sym (l.invariant.1 ∙ rw (none g.base l.n g.text.now l.i (omega arith) (sym c.hex_digit.ensures ∙ c.in_default.is)) (mod-eq_of_lt l.invariant.0))

pub returns-then-base-d : goal.returns-then-base-d
returns-then-base-d c =
    let g = c.args in
    let l = c.loop-i in
    sym (l.invariant.1 ∙ rw (other g.base l.n g.text.now l.i c.in-Some.digit (omega arith) (sym c.hex_digit.ensures ∙ c.in-Some.is) (omega arith)) (mod-eq_of_lt l.invariant.0))

pub loop-i-preserved : goal.loop-i-preserved
loop-i-preserved c =
    let g = c.args in
    let l = c.loop-i in
    let m = g.top * g.base in
    let d = c.from-d.result in
    let e : digit (get_or g.text.now l.i 0) ≡ Some d = sym c.hex_digit.ensures ∙ c.in-Some.is ∙ ap Some (sym c.from-d.ensures) in (
      room g.base g.top l.n d c.requires.1 c.if-base-d.false,
      l.invariant.1 ∙ ap (λ (k : ℕ). k % m) (one_more g.base l.n g.text.now l.i d (omega arith) e c.if-base-d.false)
          ∙ alike g.base m (drop (l.i + 1) g.text.now) _ _ (last_digits g.base g.top l.n d),
    )

pub returns : goal.returns
returns c =
    let g = c.args in
    let l = c.loop-i in
    sym (l.invariant.1 ∙ rw (at-end g.base l.n g.text.now l.i (omega arith)) (mod-eq_of_lt l.invariant.0))
