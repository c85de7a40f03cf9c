-- A binary value has its own length, and any other that of its text.
use mathlib.Core.Path.{◌≡◌, refl, sym, ◌∙◌}
use native.Mathlib.Omega.{arith}
use borrow.Author.Rules.{rules}
use borrow.Author.Tests.{not-true, not-false}
use Rattle.ape.specs.Tag.{read_value}
use Rattle.ape.proofs.Reading.{binary-value, text-value}
use Rattle.ape.proofs.Sizing.{tell-fits, tell_none}
use Rattle.ape.proofs.value_size.Goals as goal
use Rattle.ape.proofs.value_size.Goals.{Else-not-is_binary}

pub returns-then-not-is_binary : goal.returns-then-not-is_binary
returns-then-not-is_binary c =
    let g = c.args in
    rw (text-value g.flags g.value.now (sym c.is_binary.ensures ∙ c.if-not-is_binary.true)) c.lossy_within.ensures

binary : (c : Else-not-is_binary) → let g = c.args in read_value g.flags g.value.now ≡ g.value.now
binary c =
    let g = c.args in
    binary-value g.flags g.value.now (sym c.is_binary.ensures ∙ c.if-not-is_binary.false)

pub returns-then-room-value : goal.returns-then-room-value
returns-then-room-value c =
    let g = c.args in
    rw (binary (goal.at.returns-then-room-value c).Else-not-is_binary) (tell_none g.value.now g.room c.if-room-value.true)

pub returns : goal.returns
returns c =
    let g = c.args in
    rw (binary (goal.at.returns c).Else-not-is_binary) (tell-fits g.value.now g.room _ refl c.if-room-value.false)
