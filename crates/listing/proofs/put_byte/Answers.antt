use Rattle.listing.proofs.put_byte.Goals as goal

pub returns-then-is_plain : goal.returns-then-is_plain
returns-then-is_plain c = rw (← c.is_plain.ensures, c.if-is_plain.true) c.put.ensures

pub returns : goal.returns
returns c = rw (← c.is_plain.ensures, c.if-is_plain.false, ← c.hex_digit.ensures, ← c.hex_digit-2.ensures) c.put-2.ensures
