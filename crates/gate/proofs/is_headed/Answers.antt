-- Each answer by the tests that lead to it.
use mathlib.Core.Path.{◌≡◌, sym, ◌∙◌}
use mathlib.Core.Bool.{true}
use Prim.Native.Nat.{◌+◌, ◌≤◌}
use native.Mathlib.Omega.{arith}
use borrow.Author.Rules.{rules}
use borrow.Author.Tests.{not-true, not-false}
use lib.ListN.{drop}
use Rattle.lists.specs.Bytes.{starts_with}
use Rattle.lists.specs.Le.{read_u32}
use Rattle.frame.specs.Tail.{preamble}
use Rattle.ape.specs.Tag.{version_at, size_at}
use Rattle.gate.proofs.Headed.{no-bit, no-preamble, another-version, another-size, another-count, header-bit}
use Rattle.gate.proofs.is_headed.Goals as goal
use Rattle.gate.proofs.is_headed.Goals.{Else-not-starts_with, Else-read_u32_le, Else-read_u32_le-lt-APE_FLAG_HEADER_PRESENT, Else-read_u32_le-ne-APE_VERSION}

pub returns-then-read_u32_le-lt-APE_FLAG_HEADER_PRESENT : goal.returns-then-read_u32_le-lt-APE_FLAG_HEADER_PRESENT
returns-then-read_u32_le-lt-APE_FLAG_HEADER_PRESENT c =
    no-bit c.args.file.now c.args.footer c.args.start c.requires.2 (omega (arith, c.read_u32_le.ensures, c.if-read_u32_le-lt-APE_FLAG_HEADER_PRESENT.true))

-- bit 31 is set
bit : (c : Else-read_u32_le-lt-APE_FLAG_HEADER_PRESENT) → 0x80000000 ≤ read_u32 c.args.file.now (c.args.footer + 20)
bit c = omega (arith, c.read_u32_le.ensures, c.if-read_u32_le-lt-APE_FLAG_HEADER_PRESENT.false)

pub returns-then-not-starts_with : goal.returns-then-not-starts_with
returns-then-not-starts_with c =
    no-preamble c.args.file.now c.args.footer c.args.start c.requires.2 (bit (goal.at.returns-then-not-starts_with c).Else-read_u32_le-lt-APE_FLAG_HEADER_PRESENT) (sym c.starts_with.ensures ∙ c.if-not-starts_with.true)

mark : (c : Else-not-starts_with) → starts_with preamble (drop c.args.start c.args.file.now) ≡ true
mark c = sym c.starts_with.ensures ∙ c.if-not-starts_with.false

pub returns-then-read_u32_le-ne-APE_VERSION : goal.returns-then-read_u32_le-ne-APE_VERSION
returns-then-read_u32_le-ne-APE_VERSION c =
    another-version c.args.file.now c.args.footer c.args.start c.requires.2 (bit (goal.at.returns-then-read_u32_le-ne-APE_VERSION c).Else-read_u32_le-lt-APE_FLAG_HEADER_PRESENT) (mark (goal.at.returns-then-read_u32_le-ne-APE_VERSION c).Else-not-starts_with) (λ q. c.if-read_u32_le-ne-APE_VERSION.true (c.read_u32_le-2.ensures ∙ q))

version : (c : Else-read_u32_le-ne-APE_VERSION) → version_at c.args.file.now c.args.start ≡ 2000
version c = sym c.read_u32_le-2.ensures ∙ c.if-read_u32_le-ne-APE_VERSION.false

pub returns-then-read_u32_le : goal.returns-then-read_u32_le
returns-then-read_u32_le c =
    another-size c.args.file.now c.args.footer c.args.start c.requires.2 (bit (goal.at.returns-then-read_u32_le c).Else-read_u32_le-lt-APE_FLAG_HEADER_PRESENT) (mark (goal.at.returns-then-read_u32_le c).Else-not-starts_with) (version (goal.at.returns-then-read_u32_le c).Else-read_u32_le-ne-APE_VERSION)
    (λ q. c.if-read_u32_le.true (c.read_u32_le-3.ensures ∙ q ∙ sym c.read_u32_le-4.ensures))

size : (c : Else-read_u32_le) → size_at c.args.file.now c.args.start ≡ size_at c.args.file.now c.args.footer
size c = sym c.read_u32_le-3.ensures ∙ c.if-read_u32_le.false ∙ c.read_u32_le-4.ensures

pub returns-then-read_u32_le-2 : goal.returns-then-read_u32_le-2
returns-then-read_u32_le-2 c =
    another-count c.args.file.now c.args.footer c.args.start c.requires.2 (bit (goal.at.returns-then-read_u32_le-2 c).Else-read_u32_le-lt-APE_FLAG_HEADER_PRESENT) (mark (goal.at.returns-then-read_u32_le-2 c).Else-not-starts_with) (version (goal.at.returns-then-read_u32_le-2 c).Else-read_u32_le-ne-APE_VERSION) (size (goal.at.returns-then-read_u32_le-2 c).Else-read_u32_le)
    (λ q. c.if-read_u32_le-2.true (c.read_u32_le-5.ensures ∙ q ∙ sym c.read_u32_le-6.ensures))

pub returns : goal.returns
returns c =
    rw c.read_u32_le-7.ensures
    (header-bit c.args.file.now c.args.footer c.args.start c.requires.2 (bit (goal.at.returns c).Else-read_u32_le-lt-APE_FLAG_HEADER_PRESENT) (mark (goal.at.returns c).Else-not-starts_with) (version (goal.at.returns c).Else-read_u32_le-ne-APE_VERSION) (size (goal.at.returns c).Else-read_u32_le)
    (sym c.read_u32_le-5.ensures ∙ c.if-read_u32_le-2.false ∙ c.read_u32_le-6.ensures))
