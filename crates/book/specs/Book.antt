-- Settled files, and books (document 01, "Level and undo").
use Rattle.std.specs.Prelude.{ℕ, Bool, not, ◌&&◌, List}
use Rattle.lists.specs.Bytes.{same}
use Rattle.frame.specs.Tail.{preamble, stands_at}
use Rattle.items.specs.Items.{Item}
use Rattle.ape.specs.Tag.{split, file_of, replaced}
use Rattle.calls.specs.Gate.{passes_gate, items_of}

-- the gate passes it, replacing its tag by its own items changes nothing, and the bytes before its tag do not end in a block that begins `APETAGEX`;
-- a key may come twice
unfoldable pub settled : List ℕ → Bool
settled file = passes_gate file && (same (replaced file (items_of file)) file && not (stands_at 32 preamble (split file).front))

-- the bytes before the tag, its items, the bytes after it
pub record Book : Type 0 where
  pub front : List ℕ
  pub items : List Item
  pub back : List ℕ

-- the book of a file: without a tag, the front ends, and the back begins, where replacement puts one
unfoldable pub book_of : List ℕ → Book
book_of file = record { front = (split file).front; items = items_of file; back = (split file).back }

-- front, serialized items, back
unfoldable pub book_file : Book → List ℕ
book_file b = file_of b.front b.items b.back
