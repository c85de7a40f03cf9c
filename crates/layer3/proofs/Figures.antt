-- The examples, by computation.
use mathlib.Core.Path.{refl}
use Rattle.lists.specs.Bytes.{starts_with}
use Rattle.layer3.specs.Header.{unpadded_size, is_valid, header_of}
use Rattle.layer3.specs.Bits.{with_bits, read_bits, write_bits}
use Rattle.layer3.specs.Fields.{fields_from, read_left, read_right, write_fields}
use Rattle.layer3.specs.Walk.{walk_start, frame_at, walk, frames_in, fields_of}
use Rattle.layer3.specs.Figures.{Figures}

pub figures : Figures
unfolding starts_with unpadded_size is_valid header_of with_bits read_bits write_bits fields_from read_left read_right write_fields walk_start frame_at walk frames_in fields_of
figures = record {
  joint1-is = refl;
  joint1-fields = refl;
  joint1-left = refl;
  joint1-right = refl;
  joint1-moved = refl;
  mono1-is = refl;
  mono1-fields = refl;
  mono1-left = refl;
  mono1-right = refl;
  joint2-is = refl;
  joint2-fields = refl;
  joint2-left = refl;
  joint2-right = refl;
  mono2-is = refl;
  mono2-fields = refl;
  mono2-left = refl;
  mono2-right = refl;
  longest = refl;
  checked = refl;
  checked-fields = refl;
  eleven = refl;
  layer2 = refl;
  free = refl;
  rate = refl;
  sampling = refl;
  emphasis = refl;
  bits = refl;
  written = refl;
  id3 = refl;
  id3-alone = refl;
  walked = refl;
}
