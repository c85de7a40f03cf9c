use Rattle.std.proofs.Common.{arith}
use Rattle.std.proofs.lemmas.Grind.{common_steps}
use Rattle.keys.proofs.Keys.{key-unequal, key-alike, key-differs, key-nil}
use Rattle.keys.proofs.same_key.Goals as goal

pub returns-then-a-b : goal.returns-then-a-b
returns-then-a-b c = grind (arith, common_steps, key-unequal)

pub returns-then-not-same_letter : goal.returns-then-not-same_letter
returns-then-not-same_letter c = grind (arith, common_steps, key-differs)

pub loop-i-preserved : goal.loop-i-preserved
loop-i-preserved c =
    grind (arith, common_steps, key-alike)

pub returns : goal.returns
returns c = grind (arith, common_steps, key-nil)
