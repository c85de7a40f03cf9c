use Rattle.std.proofs.Common.{arith}
use Rattle.std.proofs.lemmas.Grind.{common_steps}
use Rattle.frame.specs.Tail.{tag_start, start_of}
use Rattle.frame.proofs.ape_tag_start.Goals as goal

pub returns-then-file-lt32 : goal.returns-then-file-lt32
unfolding tag_start
returns-then-file-lt32 c = grind (arith, common_steps)

pub returns-in_err-start : goal.returns-in_err-start
unfolding tag_start start_of
returns-in_err-start c = grind (arith, common_steps, c.in_err-start.ensures)

pub returns-then-read_u32_le-lt-APE_FLAG_HEADER_PRESENT : goal.returns-then-read_u32_le-lt-APE_FLAG_HEADER_PRESENT
unfolding tag_start start_of
returns-then-read_u32_le-lt-APE_FLAG_HEADER_PRESENT c = grind (arith, common_steps, c.in_ok-start.ensures)

pub returns-else-read_u32_le-lt-APE_FLAG_HEADER_PRESENT : goal.returns-else-read_u32_le-lt-APE_FLAG_HEADER_PRESENT
unfolding tag_start start_of
returns-else-read_u32_le-lt-APE_FLAG_HEADER_PRESENT c = grind (arith, common_steps, c.in_ok-start.ensures, c.checked_sub-else-read_u32_le-lt-APE_FLAG_HEADER_PRESENT.ensures)
