-- Each answer by the two tests of the definition: `last`, what stands at EOF-32, and `earlier`, what stands at EOF-160.
use mathlib.Core.Path.{◌≡◌}
use Prim.Native.Nat.{◌-◌, ◌<◌}
use native.Mathlib.Omega.{arith}
use borrow.Author.Rules.{rules}
use borrow.Author.Tests.{le-leb, lt-leb, not-true, not-false}
use lib.ListN.{length, drop}
use Rattle.lists.specs.Bytes.{starts_with}
use Rattle.frame.specs.Tail.{preamble, stands_at}
use Rattle.ape.specs.Tag.{find_footer}
use Rattle.ape.proofs.find_footer.Goals as goal
use Rattle.ape.proofs.find_footer.Goals.{After-is_preamble, After-is_preamble-2}

last : (c : After-is_preamble) → let s = c.args.file.now in c.is_preamble.result ≡ starts_with preamble (drop (length s - 32) s)
last c = c.is_preamble.ensures

earlier : (c : After-is_preamble-2) → let s = c.args.file.now in c.is_preamble-2.result ≡ starts_with preamble (drop (length s - 160) s)
earlier c = c.is_preamble-2.ensures

pub returns-then-file-lt32 : goal.returns-then-file-lt32
unfolding find_footer stands_at
returns-then-file-lt32 c = let n : length c.args.file.now < 160 = omega arith in rw (lt-leb _ _ c.if-file-lt32.true, lt-leb _ _ n)

pub returns-then-is_preamble : goal.returns-then-is_preamble
unfolding find_footer stands_at
returns-then-is_preamble c = rw (le-leb _ _ c.if-file-lt32.false, ← last (goal.at.returns-then-is_preamble c).After-is_preamble, c.if-is_preamble.true)

pub returns-then-file-lt160 : goal.returns-then-file-lt160
unfolding find_footer stands_at
returns-then-file-lt160 c = rw (le-leb _ _ c.if-file-lt32.false, ← last (goal.at.returns-then-file-lt160 c).After-is_preamble, c.if-is_preamble.false, lt-leb _ _ c.if-file-lt160.true)

pub returns-then-not-is_preamble : goal.returns-then-not-is_preamble
unfolding find_footer stands_at
returns-then-not-is_preamble c =
    rw (le-leb _ _ c.if-file-lt32.false, ← last (goal.at.returns-then-not-is_preamble c).After-is_preamble, c.if-is_preamble.false, le-leb _ _ c.if-file-lt160.false, ← earlier (goal.at.returns-then-not-is_preamble c).After-is_preamble-2, c.if-not-is_preamble.true)

pub returns-then-not-ends_with_id3v1 : goal.returns-then-not-ends_with_id3v1
unfolding find_footer stands_at
returns-then-not-ends_with_id3v1 c =
    rw (
      le-leb _ _ c.if-file-lt32.false,
      ← last (goal.at.returns-then-not-ends_with_id3v1 c).After-is_preamble,
      c.if-is_preamble.false,
      le-leb _ _ c.if-file-lt160.false,
      ← earlier (goal.at.returns-then-not-ends_with_id3v1 c).After-is_preamble-2,
      c.if-not-is_preamble.false,
      ← c.ends_with_id3v1.ensures,
      c.if-not-ends_with_id3v1.true,
    )

pub returns : goal.returns
unfolding find_footer stands_at
returns c =
    rw (
      le-leb _ _ c.if-file-lt32.false,
      ← last (goal.at.returns c).After-is_preamble,
      c.if-is_preamble.false,
      le-leb _ _ c.if-file-lt160.false,
      ← earlier (goal.at.returns c).After-is_preamble-2,
      c.if-not-is_preamble.false,
      ← c.ends_with_id3v1.ensures,
      c.if-not-ends_with_id3v1.false,
    )
