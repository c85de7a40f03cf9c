-- Whichever room is taken, it holds the items.
use mathlib.Core.Path.{◌∙◌}
use mathlib.Core.List.{List, [], ◌∷◌}
use Prim.Native.Nat.{ℕ}
use native.Mathlib.Nat.{zero-add}
use native.Mathlib.Omega.{arith}
use lib.ListN.{length, length-replicate}
use Rattle.lists.proofs.Wrote.{at_front}
use Rattle.listing.proofs.Tags.{area-fits, long-listing}
use Rattle.listing.proofs.list_tag.Goals as goal

-- the fixed text
abbrev refused : List ℕ
refused = 0x72 ∷ 0x65 ∷ 0x66 ∷ 0x75 ∷ 0x73 ∷ 0x65 ∷ 0x64 ∷ 0x3D ∷ 0x31 ∷ 0x0A ∷ []

pub returns-then-file-gt-LISTING_LIMIT : goal.returns-then-file-gt-LISTING_LIMIT
returns-then-file-gt-LISTING_LIMIT c =
    let g = c.args in
    rw (long-listing g.file.now c.if-file-gt-LISTING_LIMIT.true) (c.put.ensures.0 ∙ zero-add (length refused), c.put.ensures.1 ∙ at_front g.text.now refused)

pub list_in-requires : goal.list_in-requires
list_in-requires c = (omega (arith, c.if-file-gt-LISTING_LIMIT.false), omega (arith, c.is_short.ensures c.if-is_short.true, length-replicate {A = ℕ} 3072 0))

pub list_in-requires-2 : goal.list_in-requires-2
list_in-requires-2 c =
    let short = c.if-file-gt-LISTING_LIMIT.false in
    (omega (arith, short), omega (arith, short, area-fits c.args.file.now, length-replicate {A = ℕ} 49152 0))

pub returns-then-is_short : goal.returns-then-is_short
returns-then-is_short c = c.list_in.ensures

pub returns : goal.returns
returns c = c.list_in-2.ensures
