-- By computation.
use mathlib.Core.Path.{refl}
use Rattle.lists.specs.Bytes.{starts_with, place_of}
use Rattle.frame.specs.Tail.{stands_at, start_of, tag_start}
use Rattle.items.specs.Items.{item_bytes, area_bytes, head_at, head, parse}
use Rattle.ape.specs.Tag.{block_bytes, tag_bytes, serialize, find_footer, moved, split}
use Rattle.tail_write.specs.Rewrite.{tagless, start_in, block_before, tail_of}
use Rattle.tail_write.specs.Answers.{rewrite_plan}
use Rattle.tail_write.specs.Figures.{Figures}

pub figures : Figures
unfolding starts_with place_of stands_at start_of tag_start item_bytes area_bytes head_at head parse block_bytes tag_bytes serialize find_footer moved split tagless start_in block_before tail_of rewrite_plan
figures =
    record {
      empty = refl;
      short = refl;
      length-first = refl;
      malformed = refl;
      unwritten = refl;
      alone = refl;
      behind-tag = refl;
      removed = refl;
      before-tag = refl;
      size-0 = refl;
      found-76 = refl;
      found-130 = refl;
      found-204 = refl;
      found-205 = refl;
      found-longer = refl;
      found-shorter = refl;
    }
