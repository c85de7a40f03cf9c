-- Each answer by the bytes that stand there.
use Prim.Native.Nat.{suc, ◌-◌}
use mathlib.Core.Path.{◌≡◌, sym, ◌∙◌}
use native.Mathlib.Omega.{arith}
use Rattle.utf8.proofs.Steps.{bad-first, good-first, bad-second, good-second, bad-third, good-third}
use Rattle.utf8.proofs.character.Goals as goal

pub returns-then-not-follows : goal.returns-then-not-follows
returns-then-not-follows g c =
    let a = c.args in
    let m = g.row.MORE - 1 in
    let z : g.row.MORE ≡ suc m = omega arith in
    rw z (bad-first m a.low a.high a.s.now a.at (sym c.follows.ensures ∙ c.if-not-follows.true))

pub returns-then-this-eq1 : goal.returns-then-this-eq1
returns-then-this-eq1 g c =
    let a = c.args in
    let m = g.row.MORE - 1 in
    let z : g.row.MORE ≡ suc m = omega arith in
    rw z (good-first m a.low a.high a.s.now a.at (sym c.follows.ensures ∙ c.if-not-follows.false) (omega arith))

pub returns-then-not-follows-2 : goal.returns-then-not-follows-2
returns-then-not-follows-2 g c =
    let a = c.args in
    let m = g.row.MORE - 1 in
    let z : g.row.MORE ≡ suc m = omega arith in
    rw z (bad-second m a.low a.high a.s.now a.at (sym c.follows.ensures ∙ c.if-not-follows.false) (m - 1) (omega arith) (sym c.follows-2.ensures ∙ c.if-not-follows-2.true))

pub returns-then-this-eq2 : goal.returns-then-this-eq2
returns-then-this-eq2 g c =
    let a = c.args in
    let m = g.row.MORE - 1 in
    let z : g.row.MORE ≡ suc m = omega arith in
    rw z (good-second m a.low a.high a.s.now a.at (sym c.follows.ensures ∙ c.if-not-follows.false) (sym c.follows-2.ensures ∙ c.if-not-follows-2.false) (omega arith))

pub returns-then-not-follows-3 : goal.returns-then-not-follows-3
returns-then-not-follows-3 g c =
    let a = c.args in
    let m = g.row.MORE - 1 in
    let z : g.row.MORE ≡ suc m = omega arith in
    rw z (bad-third m a.low a.high a.s.now a.at (sym c.follows.ensures ∙ c.if-not-follows.false) (sym c.follows-2.ensures ∙ c.if-not-follows-2.false) (omega arith)
    (sym c.follows-3.ensures ∙ c.if-not-follows-3.true))

pub returns : goal.returns
returns g c =
    let a = c.args in
    let m = g.row.MORE - 1 in
    let z : g.row.MORE ≡ suc m = omega arith in
    rw z (good-third m a.low a.high a.s.now a.at (sym c.follows.ensures ∙ c.if-not-follows.false) (sym c.follows-2.ensures ∙ c.if-not-follows-2.false) (omega arith)
    (sym c.follows-3.ensures ∙ c.if-not-follows-3.false))
