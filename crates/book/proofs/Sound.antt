-- A sound book: what its front, its items and its back owe, so that its file is read as it was written.
use Prim.Native.Nat.{ℕ, ◌≤◌}
use mathlib.Core.Path.{◌≡◌}
use mathlib.Core.Bool.{true, false}
use mathlib.Core.List.{List, []}
use lib.ListN.{length}
use Rattle.replies.specs.Limits.{count_limit, area_limit}
use Rattle.frame.specs.Tail.{preamble, stands_at, ends_with_id3v1}
use Rattle.items.specs.Items.{Item, area_bytes}
use Rattle.items.proofs.Area.{AllSane}
use Rattle.calls.specs.Gate.{all_valid}

-- what may follow a tag: nothing, or an ID3v1 block in which no footer stands at EOF-32
pub data Back : List ℕ → Type 0 where
  bare : Back []
  id3 : {b : List ℕ} → length b ≡ 128 → ends_with_id3v1 b ≡ true → stands_at 32 preamble b ≡ false → Back b

-- items that a tag may hold: no zero byte in a key, UTF-8, refusal 6's limits
pub record Good (ts : List Item) : Type 0 where
  pub sane : AllSane ts
  pub valid : all_valid ts ≡ true
  pub few : length ts ≤ count_limit
  pub small : length (area_bytes ts) ≤ area_limit

pub record Sound (front : List ℕ) (ts : List Item) (back : List ℕ) : Type 0 where
  pub behind : Back back
  pub no-footer : stands_at 32 preamble front ≡ false
  pub no-id3 : back ≡ [] → ends_with_id3v1 front ≡ false
  pub good : Good ts
