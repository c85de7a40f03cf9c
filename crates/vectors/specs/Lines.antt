-- Lines of answers, and a replay of them.
use Rattle.std.specs.Prelude.{ℕ, suc, ◌+◌, ◌%◌, ◌^◌, Bool, true, false, cond, not, List, [], ◌∷◌, ◌++◌, drop, ◌==◌}
use Rattle.lists.specs.Bytes.{ascii}
use Rattle.decimal.specs.Writing.{decimal}
use Rattle.words.specs.Words.{behind}
use Rattle.vectors.specs.declared.Replay.{Replay}

-- how long the comments in front are; if `true`, s begins within one
unfoldable pub comments : Bool → List ℕ → ℕ
comments within [] = 0
comments true (x ∷ s) = suc (comments (not (x == 0x0A)) s)
comments false (x ∷ s) = cond (x == 0x23) (suc (comments true s)) 0

-- the place of the first line from at that is no comment, or the end
abbrev pub answer_from : List ℕ → ℕ → ℕ
answer_from s at = at + comments false (drop at s)

-- before the first answer
abbrev pub started : List ℕ → Replay
started s = record { at = answer_from s 0; answers = 0; differ = 0 }

-- one more answer was replayed
abbrev pub counted : List ℕ → Replay → Bool → Replay
counted s r agrees =
    record { at = answer_from s (behind 0x0A s r.at); answers = (r.answers + 1) % 2 ^ 32; differ = cond agrees r.differ ((r.differ + 1) % 2 ^ 32) }

-- what is written of a replay, behind its name
abbrev pub line_of : Replay → List ℕ
line_of r = ((decimal 1 9 r.answers ++ ascii " answers, ") ++ decimal 1 9 r.differ) ++ ascii " differ\n"
