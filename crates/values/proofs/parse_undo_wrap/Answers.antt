use mathlib.Core.Path.{◌≡◌, ap, ◌∙◌}
use Rattle.lists.specs.Bytes.{ascii}
use Rattle.number.specs.Trim.{trim}
use Rattle.number.specs.Fields.{field}
use Rattle.keys.specs.Keys.{same_key}
use Rattle.values.specs.Undo.{undo_wraps}
use Rattle.values.proofs.parse_undo_wrap.Goals as goal

pub returns : goal.returns
unfolding undo_wraps
returns c =
    let third : c.field.result.now ≡ field 2 c.args.text.now = c.field.ensures in
    c.same_key.ensures ∙ ap (λ f. same_key f (ascii "W")) (c.trim-flag.ensures ∙ ap trim third)
