-- Where a file is cut, and what the calls answer and write that give it another tag.
use Rattle.std.specs.Prelude.{ℕ, ◌+◌, ◌-◌, ◌≤◌, cond, ◌≡◌, List, [], ◌∷◌, length, take, ltb}
use Rattle.lists.specs.Write.{part}
use Rattle.replies.specs.Refusal.{refusal_of, Plan, planned}
use Rattle.frame.specs.Tail.{ends_with_id3v1, tag_start}
use Rattle.items.specs.Items.{Item, items_in}
use Rattle.ape.specs.Tag.{Split, find_footer, footed, started, replaced}
use Rattle.ape.specs.Answers.{lent_fits, room_for}
use Rattle.ape_write.specs.Answers.{area_fits}
use Rattle.ape_replace.specs.declared.Cut.{Cut}

-- the file with its tag replaced by these items, if there is room
unfoldable pub room_plan : List ℕ → List Item → ℕ → Plan (List ℕ)
room_plan file ts room = planned (refusal_of (room_for room (replaced file ts) ∷ [])) (replaced file ts)

-- replace_ape_tag
unfoldable pub replace_plan : List ℕ → List ℕ → ℕ → ℕ → Plan (List ℕ)
replace_plan file area count room =
    let w = replaced file (items_in count area) in
    planned (refusal_of (lent_fits file ∷ area_fits count area ∷ room_for room w ∷ [])) w

-- ---- where a file is cut: up to `front` is what precedes its tag, and what follows it stands between `from` and `to`

-- a cut, written in one line
abbrev pub cut : ℕ → ℕ → ℕ → Cut
cut front from to = record { front = front; from = from; to = to }

-- cut_ape_tag: around the tag alone; without a footer or a start all is audio
unfoldable pub tag_cut : List ℕ → Cut
tag_cut s =
    let n = length s in
    footed (find_footer s) (cut n n n) (λ f. started (tag_start s f) (cut n n n) (λ a. cut a (f + 32) n))

-- the audio that ends here, with nothing behind it: an ID3v1 block at its end is what follows
unfoldable pub audio_cut : List ℕ → ℕ → Cut
audio_cut s end = cond (ends_with_id3v1 (take end s)) (cut (end - 128) (end - 128) end) (cut end end end)

-- split_ape_tag: with a footer and a start, the audio ends at the start, and what stands behind the footer follows; else all is audio
unfoldable pub cut_of : List ℕ → Cut
cut_of s =
    footed (find_footer s) (audio_cut s (length s)) (λ f.
    started (tag_start s f) (audio_cut s (length s)) (λ a.
    cond (ltb (f + 32) (length s)) (cut a (f + 32) (length s)) (audio_cut s a)))

-- the split as a call: refusal 1
abbrev pub split_plan : List ℕ → Plan Cut
split_plan file = planned (refusal_of (lent_fits file ∷ [])) (cut_of file)

-- cut_ape_tag as a call: refusal 1
abbrev pub tag_plan : List ℕ → Plan Cut
tag_plan file = planned (refusal_of (lent_fits file ∷ [])) (tag_cut file)

-- a cut leaves these two parts
pub record Cuts (x : Split) (s : List ℕ) (front from to : ℕ) : Type 0 where
  pub front-is : take front s ≡ x.front
  pub back_is : part from to s ≡ x.back
  pub front-within : front ≤ length s
  pub order : from ≤ to
  pub within : to ≤ length s
