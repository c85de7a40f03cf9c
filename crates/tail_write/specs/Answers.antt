-- What the rewriting of a file's end answers and leaves in the buffer.
use Rattle.std.specs.Prelude.{ℕ, ◌+◌, ◌≤◌, Bool, true, false, not, cond, ◌≡◌, List, [], ◌∷◌, length, take, leb, ltb, Result, Ok, Err}
use Rattle.lists.specs.Write.{part}
use Rattle.replies.specs.Refusal.{need, refusal_of, Plan, no, yes, planned}
use Rattle.replies.specs.declared.Refusal.{Refusal}
use Rattle.replies.specs.declared.Refusal.TheVariants.{NoRoom}
use Rattle.frame.specs.Tail.{tag_start}
use Rattle.items.specs.Items.{Item, items_in}
use Rattle.ape.specs.Tag.{find_footer, footed, started}
use Rattle.ape.specs.Answers.{lent_fits, has_room}
use Rattle.ape_write.specs.Answers.{area_fits}
use Rattle.ape_replace.specs.Answers.{audio_cut}
use Rattle.ape_replace.specs.declared.Cut.{Cut}
use Rattle.tail_write.specs.Rewrite.{tagless, audio_end, behind, Tail, tail_of, length_of, after, length_after}
use Rattle.tail_write.specs.declared.Place.{Place}
use Rattle.tail_write.specs.declared.Rewritten.{Rewritten}
use Rattle.tail_write.specs.declared.Rewritten.TheVariants.{Done, Stopped}

-- ---- the plan

-- the rewrite of a file by these items, if there is room for it
unfoldable pub room_plan : List ℕ → List Item → ℕ → Plan Tail
room_plan file ts room = planned (refusal_of (need NoRoom (has_room room (length_of (tail_of file ts))) ∷ [])) (tail_of file ts)

-- rewrite_ape_tail on a file of n bytes at the front of a buffer: refusal 5 for a length past the buffer, then 1, 12 and 5
unfoldable pub rewrite_plan : List ℕ → ℕ → List ℕ → ℕ → Plan Tail
rewrite_plan buf n area count =
    let file = take n buf in
    let t = tail_of file (items_in count area) in
    cond (leb n (length buf)) (planned (refusal_of (lent_fits file ∷ area_fits count area ∷ need NoRoom (has_room (length buf) (length_of t)) ∷ [])) t) (no NoRoom)

-- what is found after k writes: each byte of the tail is one, and the one behind them sets the length
abbrev pub rewrite_answer : ℕ → ℕ → Plan Tail → Result Rewritten Refusal
rewrite_answer n k (no r) = Err r
rewrite_answer n k (yes t) = Ok (cond (ltb (length t.bytes) k) (Done t.end (length_of t)) (Stopped t.end (length_after t k n)))

-- the buffer then: as it was when refused
abbrev pub rewrite_buffer : ℕ → Plan Tail → List ℕ → List ℕ
rewrite_buffer k (no r) buf = buf
rewrite_buffer k (yes t) buf = after t k buf

-- the answer after all writes
abbrev pub whole_answer : Plan Tail → Result Rewritten Refusal
whole_answer (no r) = Err r
whole_answer (yes t) = Ok (Done t.end (length_of t))

-- the buffer after all writes
abbrev pub whole_buffer : Plan Tail → List ℕ → List ℕ
whole_buffer (no r) buf = buf
whole_buffer (yes t) buf = after t (length t.bytes) buf

-- ---- where a file is rewritten: from `end` on, and what follows the new tag stands between `from` and `to`

-- a file without a tag: an ID3v1 block at its end follows the new one
abbrev pub bare_of : Cut → Place
bare_of c = record { tagged = false; end = c.front; from = c.from; to = c.to }

-- with a tag: from its start on, and what stands behind the footer follows
unfoldable pub place_in : List ℕ → Place
place_in s =
    footed (find_footer s) (bare_of (audio_cut s (length s))) (λ f.
    started (tag_start s f) (bare_of (audio_cut s (length s))) (λ a.
    record { tagged = true; end = a; from = f + 32; to = length s }))

-- such places are those of the audio end and of what follows
pub record Places (s : List ℕ) (tagged : Bool) (end from to : ℕ) : Type 0 where
  pub tagged_is : tagless s ≡ not tagged
  pub end_is : audio_end s ≡ end
  pub behind-is : part from to s ≡ behind s
  pub end-within : end ≤ length s
  pub order : from ≤ to
  pub within : to ≤ length s
  pub few : to ≤ from + 128
