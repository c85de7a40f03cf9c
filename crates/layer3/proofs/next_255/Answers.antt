use Rattle.std.proofs.Common.{◌∙◌, arith, length, ap}
use Rattle.layer3.specs.Walk.{walk}
use Rattle.layer3.proofs.Parse.{walk-skip}
use Rattle.layer3.proofs.next_255.Goals as goal

pub returns : goal.returns
returns c =
    let s = c.args.s.now in
    (omega arith, ap (walk (length s) s) c.find_byte.ensures ∙ walk-skip s (length s) c.args.at (omega arith))
