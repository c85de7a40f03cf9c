use mathlib.Core.Path.{◌≡◌, ◌∙◌}
use Prim.Native.Nat.{◌<◌}
use native.Mathlib.Omega.{arith}
use lib.ListN.{length}
use Rattle.replies.specs.Refusal.{Plan, yes}
use Rattle.tail_write.specs.Rewrite.{Tail}
use Rattle.tail_write.specs.Answers.{rewrite_plan}
use Rattle.tail_write.proofs.Planning.{plan-fits, whole-answer, whole-buffer}
use Rattle.tail_write.proofs.rewrite_ape_tail.Goals as goal
use Rattle.tail_write.proofs.rewrite_ape_tail.Goals.{Start}

-- what was planned
abbrev plan : (b : Start) → Plan Tail
plan b = rewrite_plan b.args.buf.now b.args.total b.args.area.now b.args.count

-- the budget is more than there are bytes
enough : (b : Start) → (t : Tail) → plan b ≡ yes t → length t.bytes < 0xFFFFFFFFFFFFFFFF
enough b t e = omega (arith, (plan-fits b.args.buf.now b.args.total b.args.area.now b.args.count t e).3)

pub returns : goal.returns
returns c = (
  c.rewrite_within.ensures.0 ∙ whole-answer c.args.total 0xFFFFFFFFFFFFFFFF (plan (goal.at.returns c).Start) (enough (goal.at.returns c).Start),
  c.rewrite_within.ensures.1 ∙ whole-buffer c.args.total 0xFFFFFFFFFFFFFFFF (plan (goal.at.returns c).Start) c.args.buf.now (enough (goal.at.returns c).Start),
)
