use mathlib.Core.Path.{◌≡◌, refl}
use mathlib.Core.Bool.{Bool, true, false, cond}
use Prim.Native.Nat.{◌+◌}
use native.Mathlib.Omega.{arith}
use lib.Dec.{leb}
use borrow.Author.Tests.{leb-true, leb-false}
use Rattle.replies.specs.Limits.{file_limit}
use Rattle.area_gains.specs.Gains.{capped}
use Rattle.area_gains.proofs.grown.Goals as goal

pub returns : goal.returns
unfolding capped
returns c = go (leb (c.args.size + c.args.more) file_limit) refl
  where
    go : (t : Bool) → leb (c.args.size + c.args.more) file_limit ≡ t → c.min.result ≡ cond t (c.args.size + c.args.more) (file_limit + 1)
    go true e = let h = leb-true _ _ e in omega arith
    go false e = let h = leb-false _ _ e in omega arith
