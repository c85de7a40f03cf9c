-- A binary value is copied, and any other converted.
use mathlib.Core.Path.{◌≡◌, sym, ◌∙◌}
use native.Mathlib.Omega.{arith}
use borrow.Author.Rules.{rules}
use Rattle.lossy.specs.Lossy.{lossy}
use Rattle.ape.specs.Tag.{read_value}
use Rattle.ape.proofs.Reading.{binary-value, text-value}
use Rattle.ape.proofs.put_value.Goals as goal
use Rattle.ape.proofs.put_value.Goals.{Else-is_binary, Then-is_binary}

binary : (c : Then-is_binary) → let g = c.args in read_value g.flags g.value.now ≡ g.value.now
binary c =
    let g = c.args in
    binary-value g.flags g.value.now (sym c.is_binary.ensures ∙ c.if-is_binary.true)

text : (c : Else-is_binary) → let g = c.args in read_value g.flags g.value.now ≡ lossy g.value.now
text c =
    let g = c.args in
    text-value g.flags g.value.now (sym c.is_binary.ensures ∙ c.if-is_binary.false)

pub put-requires : goal.put-requires
put-requires c = rw (binary (goal.at.put-requires c).Then-is_binary) at c.requires.1

pub returns-then-is_binary : goal.returns-then-is_binary
returns-then-is_binary c = rw (binary (goal.at.returns-then-is_binary c).Then-is_binary) c.put.ensures

pub lossy_put-requires : goal.lossy_put-requires
lossy_put-requires c =
    (c.requires.0, rw (text (goal.at.lossy_put-requires c).Else-is_binary) at c.requires.1)

pub returns : goal.returns
returns c = rw (text (goal.at.returns c).Else-is_binary) c.lossy_put.ensures
