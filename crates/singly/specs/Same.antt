-- What both conversions leave in a lent buffer.
use Rattle.std.specs.Prelude.{ℕ, List, length}
use Rattle.lists.specs.Write.{over}
use Rattle.lossy.specs.Lossy.{lossy}
use Rattle.lossy.specs.Write.{bytes, within}

-- the conversion of s at the front of out where there is room for it, and else out
abbrev pub left : List ℕ → List ℕ → List ℕ
left s out = over (bytes (within (length out) (lossy s))) out
