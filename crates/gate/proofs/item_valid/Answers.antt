-- Each answer by the tests that lead to it.
use mathlib.Core.Path.{◌≡◌, sym, ◌∙◌}
use mathlib.Core.Bool.{true}
use mathlib.Core.List.{List}
use Prim.Native.Nat.{ℕ}
use borrow.Author.Rules.{rules}
use borrow.Author.Tests.{not-true, not-false}
use Rattle.utf8.specs.Utf8.{valid}
use Rattle.items.specs.Items.{Item}
use Rattle.calls.specs.Gate.{flags_fit}
use Rattle.gate.proofs.Clean.{bad-flags, bad-key, binary-item, text-item}
use Rattle.gate.proofs.item_valid.Goals as goal
use Rattle.gate.proofs.item_valid.Goals.{Else-not-flags_fit, Else-not-is_utf8_by}

abbrev item_of : ℕ → List ℕ → List ℕ → Item
item_of flags key value = record { key = key; value = value; flags = flags }

pub returns-then-not-flags_fit : goal.returns-then-not-flags_fit
returns-then-not-flags_fit c =
    let g = c.args in
    bad-flags (item_of g.flags g.key.now g.value.now) (sym c.flags_fit.ensures ∙ c.if-not-flags_fit.true)

-- the flags fit
fits : (c : Else-not-flags_fit) → flags_fit c.args.flags ≡ true
fits c = sym c.flags_fit.ensures ∙ c.if-not-flags_fit.false

pub returns-then-not-is_utf8_by : goal.returns-then-not-is_utf8_by
returns-then-not-is_utf8_by c =
    let g = c.args in
    bad-key (item_of g.flags g.key.now g.value.now) (fits (goal.at.returns-then-not-is_utf8_by c).Else-not-flags_fit) (sym c.is_utf8_by.ensures ∙ c.if-not-is_utf8_by.true)

-- the key is UTF-8
good : (c : Else-not-is_utf8_by) → valid c.args.key.now ≡ true
good c = sym c.is_utf8_by.ensures ∙ c.if-not-is_utf8_by.false

pub returns-then-is_binary : goal.returns-then-is_binary
returns-then-is_binary c =
    let g = c.args in
    binary-item (item_of g.flags g.key.now g.value.now) (fits (goal.at.returns-then-is_binary c).Else-not-flags_fit) (good (goal.at.returns-then-is_binary c).Else-not-is_utf8_by) (sym c.is_binary.ensures ∙ c.if-is_binary.true)

pub returns : goal.returns
returns c =
    let g = c.args in
    c.is_utf8_by-2.ensures ∙ text-item (item_of g.flags g.key.now g.value.now) (fits (goal.at.returns c).Else-not-flags_fit) (good (goal.at.returns c).Else-not-is_utf8_by) (sym c.is_binary.ensures ∙ c.if-is_binary.false)
