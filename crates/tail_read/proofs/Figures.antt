-- By computation.
use mathlib.Core.Path.{refl}
use Rattle.lists.specs.Bytes.{starts_with, place_of}
use Rattle.frame.specs.Tail.{stands_at}
use Rattle.utf8.specs.Utf8.{number_of, class_at, run, step_of}
use Rattle.lossy.specs.Lossy.{lossy_from, lossy}
use Rattle.items.specs.Items.{item_bytes, area_bytes, head_at, head}
use Rattle.ape.specs.Tag.{block_bytes, tag_bytes, serialize, find_footer, area_at, read_value, read_items, read_tag}
use Rattle.tail_read.specs.Needed.{needed}
use Rattle.tail_read.specs.Answers.{end_plan}
use Rattle.tail_read.specs.Figures.{Figures}

pub figures : Figures
unfolding starts_with place_of stands_at number_of class_at run step_of lossy_from lossy item_bytes area_bytes head_at head block_bytes tag_bytes serialize find_footer area_at read_value read_items read_tag needed end_plan
figures =
    record {
      none-long = refl;
      none-short = refl;
      inside = refl;
      longer = refl;
      whole = refl;
      block-behind = refl;
      exact = refl;
      wide = refl;
      beyond = refl;
      nothing = refl;
      longest = refl;
      too_long = refl;
      read = refl;
      no_room = refl;
    }
