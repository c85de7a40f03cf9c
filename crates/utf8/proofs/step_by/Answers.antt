-- `utf8::step_by` meets its contract: each arm is a row of table 3-7.
use Prim.Native.Nat.{ℕ, ◌+◌, ◌≤◌}
use mathlib.Core.Path.{◌≡◌, refl, sym, ap, ◌∙◌}
use native.Mathlib.Omega.{arith}
use lib.ListN.{drop, drop_of_length-le, get_or-eq_default}
use Rattle.utf8.specs.declared.Part.{Part}
use Rattle.utf8.specs.Utf8.{rows, no_row, class_at, run, follow, step_of}
use Rattle.utf8.proofs.Steps.{opened, none-begins, bad-first}
use Rattle.utf8.proofs.step_by.Goals as goal
use Rattle.utf8.proofs.step_by.Goals.{After-number_of-k}

-- the answer is what the class makes of the bytes that follow
told : (p : After-number_of-k) → (k : ℕ) → p.number_of-k.result ≡ k → {x : Part}
    → x ≡ follow (class_at k) (drop (p.args.at + 1) p.args.s.now)
    → x ≡ step_of (drop p.args.at p.args.s.now)
told p k e a =
    let g = p.args in
    a ∙ sym (opened g.s.now g.at k (omega arith) (sym p.number_of-k.ensures ∙ e))

pub returns-then-at-s : goal.returns-then-at-s
unfolding step_of
returns-then-at-s c = rw (drop_of_length-le c.args.s.now {i = c.args.at} (omega arith))

pub returns-in-0 : goal.returns-in-0
unfolding class_at run
returns-in-0 c = told (goal.at.returns-in-0 c).After-number_of-k 0 c.in-0.is refl

pub returns-in-1 : goal.returns-in-1
unfolding class_at
returns-in-1 c = told (goal.at.returns-in-1 c).After-number_of-k 1 c.in-1.is c.character.ensures

pub returns-in-2 : goal.returns-in-2
unfolding class_at
returns-in-2 c = told (goal.at.returns-in-2 c).After-number_of-k 2 c.in-2.is c.character-in-2.ensures

pub returns-in-3 : goal.returns-in-3
unfolding class_at
returns-in-3 c = told (goal.at.returns-in-3 c).After-number_of-k 3 c.in-3.is c.character-in-3.ensures

pub returns-in-4 : goal.returns-in-4
unfolding class_at
returns-in-4 c = told (goal.at.returns-in-4 c).After-number_of-k 4 c.in-4.is c.character-in-4.ensures

pub returns-in-5 : goal.returns-in-5
unfolding class_at
returns-in-5 c = told (goal.at.returns-in-5 c).After-number_of-k 5 c.in-5.is c.character-in-5.ensures

pub returns-in-6 : goal.returns-in-6
unfolding class_at
returns-in-6 c = told (goal.at.returns-in-6 c).After-number_of-k 6 c.in-6.is c.character-in-6.ensures

pub returns-in-7 : goal.returns-in-7
unfolding class_at
returns-in-7 c = told (goal.at.returns-in-7 c).After-number_of-k 7 c.in-7.is c.character-in-7.ensures

pub returns-in-8 : goal.returns-in-8
unfolding class_at
returns-in-8 c = told (goal.at.returns-in-8 c).After-number_of-k 8 c.in-8.is c.character-in-8.ensures

pub returns-in_default : goal.returns-in_default
unfolding class_at
returns-in_default c =
    let k = c.number_of-k.result in
    let past : 9 ≤ k = omega arith in
    let nothing : class_at k ≡ no_row.says = ap (λ r. r.says) (get_or-eq_default rows no_row {n = k} past) in
    let g = c.args in
    let rest = drop (g.at + 1) g.s.now in
    told (goal.at.returns-in_default c).After-number_of-k k refl (bad-first 0 1 0 g.s.now (g.at + 1) (none-begins rest) ∙ ap (λ q. follow q rest) (sym nothing))
