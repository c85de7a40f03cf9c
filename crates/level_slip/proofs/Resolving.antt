-- The mode of a slip, by what the search for the undo item found.
use Prim.Native.Nat.{ℕ}
use mathlib.Core.Path.{◌≡◌, refl, sym, ap, ◌∙◌}
use mathlib.Core.Bool.{Bool, true, false, cond, true≢false}
use Rattle.std.specs.Prelude.{Option, None, Some, Result, Ok, Err, ok_or}
use mathlib.Core.List.{List, []}
use native.Mathlib.Omega.{arith}
use Rattle.replies.specs.declared.Refusal.{Refusal}
use Rattle.replies.specs.declared.Refusal.TheVariants.{MalformedSlip}
use Rattle.slip.specs.declared.Wish.{Wish}
use Rattle.lists.specs.Choice.{found, is_some}
use Rattle.frame.specs.declared.GainMode.TheVariants.{Wrapping}
use Rattle.frame.specs.Gain.{mode_of}
use Rattle.values.specs.Undo.{undo_wraps}
use Rattle.items.specs.Items.{Item, get_item}
use Rattle.calls.specs.Gate.{gate_items, passes_gate, items_of}
use Rattle.calls.specs.Calls.{stored_undo, resolved}

module _ (ts : List Item) where
  pub mode-none : stored_undo ts ≡ None → Wrapping ≡ resolved None ts
  unfolding resolved
  mode-none e = rw e

  pub mode-there : {text : List ℕ} → stored_undo ts ≡ Some text → mode_of (undo_wraps text) ≡ resolved None ts
  unfolding resolved
  mode-there e = rw e

-- a file that is not fit for editing has no items
pub unfit-items : (s : List ℕ) → passes_gate s ≡ false → items_of s ≡ []
unfolding passes_gate items_of
unfit-items s e = go (gate_items s) refl e
  where
    go : (o : Option (List Item)) → gate_items s ≡ o → is_some o ≡ false → found o [] (λ ts. ts) ≡ []
    go None q e = refl
    go (Some ts) q e = absurd (true≢false e)

pub unfit-mode : (s : List ℕ) → passes_gate s ≡ false → Wrapping ≡ resolved None (items_of s)
unfolding resolved stored_undo get_item
unfit-mode s e = rw (unfit-items s e)

-- a form that was not read, and one that was
pub unread : (o : Option Wish) {r : Refusal} → ◌≡◌ {A = Result Wish Refusal} (Err r) (ok_or o MalformedSlip) → (o ≡ None) × (r ≡ MalformedSlip)
unread None e = (refl, cc)
unread (Some w) e = absurd (let z : ◌≡◌ {A = ℕ} 0 1 = cc in omega arith)

pub read : (o : Option Wish) {w : Wish} → ◌≡◌ {A = Result Wish Refusal} (Ok w) (ok_or o MalformedSlip) → o ≡ Some w
read None e = absurd (let z : ◌≡◌ {A = ℕ} 0 1 = cc in omega arith)
read (Some v) {w} e = let z : v ≡ w = cc in rw z
