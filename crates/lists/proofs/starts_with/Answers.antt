-- Past the end nothing stands, as at the end.
use mathlib.Core.Path.{◌≡◌, ap, ◌∙◌}
use lib.ListN.{drop}
use Rattle.std.proofs.lemmas.List.{drop_min}
use Rattle.lists.specs.Bytes.{starts_with}
use Rattle.lists.proofs.Same.{starts-is}
use Rattle.lists.proofs.Wrote.{rest}
use Rattle.lists.proofs.starts_with.Goals as goal

pub returns : goal.returns
returns c =
    let s = c.args.s.now in
    let p = c.args.text.now in
    let there : drop c.min.result s ≡ drop c.args.at s = rw c.min.ensures (drop_min c.args.at s) in
    c.starts_with.ensures.value ∙ starts-is p _ ∙ ap (starts_with p) (rest s c.min.result ∙ there)
