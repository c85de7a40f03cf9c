-- What the gate answers: where the items of a file stand that is fit for editing.
use Rattle.std.specs.Prelude.{Result, Ok, Err}
use Rattle.std.specs.Prelude.{ℕ, ◌+◌, ◌-◌, ◌≤◌, ◌≡◌, true, cond, List, [], ◌∷◌, length}
use Rattle.lists.specs.Choice.{is_some}
use Rattle.lists.specs.Write.{part}
use Rattle.replies.specs.Limits.{count_limit, area_limit}
use Rattle.replies.specs.Refusal.{need, refusal_of, Plan, planned}
use Rattle.replies.specs.declared.Refusal.{Refusal}
use Rattle.replies.specs.declared.Refusal.TheVariants.{NotEditable}
use Rattle.items.specs.Items.{parse, items_in}
use Rattle.ape.specs.Tag.{find_footer, footed, size_at, count_at}
use Rattle.ape.specs.Answers.{lent_fits}
use Rattle.calls.specs.Gate.{passes_gate, items_of}
use Rattle.gate.specs.declared.TagArea.{TagArea}

-- those of the file by its footer; without one, none at the front
unfoldable pub area_place : List ℕ → TagArea
area_place s =
    footed (find_footer s) (record { start = 0; end = 0; count = 0 }) (λ f.
    record { start = f + 32 - size_at s f; end = f; count = count_at s f })

-- the gate answers that place, if it passes the file
unfoldable pub gate_of : List ℕ → Result TagArea Refusal
gate_of s = cond (passes_gate s) (Ok (area_place s)) (Err NotEditable)

-- the gate as a call: refusals 1 and 8
abbrev pub gate_plan : List ℕ → Plan TagArea
gate_plan file = planned (refusal_of (lent_fits file ∷ need NotEditable (passes_gate file) ∷ [])) (area_place file)

-- the items that the gate finds are those that stand there
pub record Passed (s : List ℕ) (p : TagArea) : Type 0 where
  pub passes : passes_gate s ≡ true
  pub order : p.start ≤ p.end
  pub within : p.end ≤ length s
  pub good : is_some (parse p.count (part p.start p.end s)) ≡ true
  pub items : items_in p.count (part p.start p.end s) ≡ items_of s
  pub few : p.count ≤ count_limit
  pub short : p.end - p.start ≤ area_limit
