-- Each part that is lent is the end of the file that the laws speak of.
use Rattle.std.specs.Prelude.{Err}
use mathlib.Core.Path.{◌≡◌, refl, sym, ap, ◌∙◌}
use mathlib.Core.List.{List}
use Prim.Native.Nat.{ℕ, ◌-◌}
use native.Mathlib.Omega.{arith}
use borrow.Author.Rules.{rules}
use lib.ListN.{length, take, drop}
use Rattle.ape.specs.Answers.{read_plan}
use Rattle.tail_read.specs.Needed.{probe_of, needed}
use Rattle.tail_read.specs.Answers.{needs_answer, needs_plan, end_plan}
use Rattle.tail_read.proofs.Ends.{end_of, lent, needs-is, needs-refused, end-plan}
use Rattle.tail_read.proofs.read_from_end.Goals as goal
use Rattle.tail_read.proofs.read_from_end.Goals.{After-bytes_needed}

-- the first stage was lent the probe
first : (c : After-bytes_needed) → c.bytes_needed.result ≡ needs_answer (needs_plan (probe_of c.args.file.now) (length c.args.file.now))
first c =
    let s = c.args.file.now in
    c.bytes_needed.ensures ∙ ap (λ (p : List ℕ). needs_answer (needs_plan p (length s))) (lent s 160 _ (omega (arith, c.min.ensures)))

pub returns-in_err-k : goal.returns-in_err-k
returns-in_err-k c =
    let g = c.args in
    let r : c.from_residual.result ≡ Err c.in_err-k.field-0.0 = search rules in
    rw (needs-refused g.file.now _ (length g.area.now) (sym c.in_err-k.was ∙ first (goal.at.returns-in_err-k c).After-bytes_needed), r) (refl, refl)

pub returns : goal.returns
returns c =
    let g = c.args in
    let s = g.file.now in
    let k : c.in_ok-k.k ≡ needed (probe_of s) (length s) = needs-is s _ (sym c.in_ok-k.was ∙ first (goal.at.returns c).After-bytes_needed) in
    let part : take (length s - (length s - c.min-2.result)) (drop (length s - c.min-2.result) s) ≡ end_of s = lent s (needed (probe_of s) (length s)) _ (omega (arith, c.min-2.ensures, k)) in
    let plan : end_plan (take (length s - (length s - c.min-2.result)) (drop (length s - c.min-2.result) s)) (length s) (length g.area.now) ≡ read_plan s (length g.area.now) =
    ap (λ (p : List ℕ). end_plan p (length s) (length g.area.now)) part ∙ end-plan s (length g.area.now) in
    rw (← plan) c.read_end.ensures
