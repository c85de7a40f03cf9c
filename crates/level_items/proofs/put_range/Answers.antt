use native.Mathlib.Omega.{arith}
use Rattle.keys.specs.Keys.{minmax_key}
use Rattle.values.specs.Range.{format_range}
use Rattle.values.proofs.ReadBack.{length-range}
use Rattle.items.specs.Items.{items_in}
use Rattle.level_items.proofs.Texts.{text-fits, text-wrote}
use Rattle.level_items.proofs.put_range.Goals as goal

pub put_set-requires : goal.put_set-requires
unfolding minmax_key
put_set-requires c =
    let t = c.format_minmax-text in
    let f = text-fits t.result (format_range c.args.range) t.ensures c.as_slice.result.now c.as_slice.ensures minmax_key (items_in c.args.count c.args.area.now) c.args.out.now (omega (arith, length-range c.args.range)) c.requires.1 in
    (c.requires.0, f.0, f.1)

pub returns : goal.returns
unfolding minmax_key
returns c =
    let t = c.format_minmax-text in
    text-wrote t.result (format_range c.args.range) t.ensures c.as_slice.result.now c.as_slice.ensures minmax_key (items_in c.args.count c.args.area.now) c.args.out.now _ _ c.put_set.ensures
