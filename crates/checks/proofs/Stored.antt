-- What the search for the undo item says of the items of a well-formed area.
use Prim.Native.Nat.{ℕ}
use mathlib.Core.Path.{◌≡◌, refl, sym, ap, ◌∙◌}
use mathlib.Core.Bool.{Bool, true, false}
use native.Mathlib.Omega.{arith}
use mathlib.Core.List.{List}
use Rattle.std.specs.Prelude.{Option, None, Some, Result, Ok, Err}
use Rattle.lists.specs.Bytes.{Small}
use Rattle.lists.specs.Choice.{is_some}
use Rattle.replies.specs.declared.Refusal.{Refusal}
use Rattle.replies.specs.declared.Refusal.TheVariants.{NoUndo, SecondUndo}
use Rattle.keys.specs.Keys.{undo_key}
use Rattle.keys.proofs.Keys.{undo-keys}
use Rattle.items.specs.Items.{Item, parse, items_in, is_repeated}
use Rattle.items.specs.Answers.{find_of, value_of, found_repeated}
use Rattle.items.specs.declared.Found.{Found}
use Rattle.items.proofs.Finding.{got, get-is, repeated-is}
use Rattle.calls.specs.Calls.{stored_undo}
use Rattle.checks.specs.Stored.{said, undo_of}
use Rattle.checks.specs.declared.StoredUndo.{StoredUndo}

module _ (s : List ℕ) (n : ℕ) (b : Small s) (w : is_some (parse n s) ≡ true) where
  text : got s (find_of s n undo_key) ≡ stored_undo (items_in n s)
  unfolding stored_undo undo_key
  text = get-is s n undo_key b w undo-keys.0

  twice : found_repeated (find_of s n undo_key) ≡ is_repeated undo_key (items_in n s)
  unfolding undo_key
  twice = repeated-is s n undo_key w undo-keys.0

  -- it is never refused
  pub searched : {r : Refusal} → Err r ≡ find_of s n undo_key → ⊥
  unfolding find_of undo_key
  searched {r} e =
      let f = rw (w, undo-keys.0) at e in
      absurd (let z : ◌≡◌ {A = ℕ} 0 1 = cc in omega arith)

  -- none is stored
  pub nothing : Ok None ≡ find_of s n undo_key → (stored_undo (items_in n s) ≡ None) × (is_repeated undo_key (items_in n s) ≡ false)
  nothing e = (sym text ∙ ap (got s) (sym e), sym twice ∙ ap found_repeated (sym e))

  -- one is stored, and this is its text
  pub something : {f : Found} → Ok (Some f) ≡ find_of s n undo_key
      → (stored_undo (items_in n s) ≡ Some (value_of s f)) × (is_repeated undo_key (items_in n s) ≡ f.repeated)
  something e = (sym text ∙ ap (got s) (sym e), sym twice ∙ ap found_repeated (sym e))

-- ---- what an undo item says

module _ (ts : List Item) where
  pub said-14 : is_repeated undo_key ts ≡ true → undo_of ts ≡ Err SecondUndo
  unfolding undo_of
  said-14 e = rw e

  module _ (o : is_repeated undo_key ts ≡ false) where
    pub said-10 : stored_undo ts ≡ None → undo_of ts ≡ Err NoUndo
    unfolding undo_of
    said-10 e = rw (o, e)

    pub said-is : {text : List ℕ} → stored_undo ts ≡ Some text → undo_of ts ≡ Ok (said text)
    unfolding undo_of
    said-is e = rw (o, e)

-- no numbers: none is stored, or a second one
pub data Unstored (ts : List Item) : Refusal → Type 0 where
  second : is_repeated undo_key ts ≡ true → Unstored ts SecondUndo
  none : is_repeated undo_key ts ≡ false → stored_undo ts ≡ None → Unstored ts NoUndo

pub unstored : (ts : List Item) {r : Refusal} → Err r ≡ undo_of ts → Unstored ts r
unfolding undo_of
unstored ts {r} e = go (is_repeated undo_key ts) (stored_undo ts) refl refl
  where
    go : (a : Bool) (o : Option (List ℕ)) → is_repeated undo_key ts ≡ a → stored_undo ts ≡ o → Unstored ts r
    go true o p q =
        let y : Err r ≡ Err SecondUndo = e ∙ said-14 ts p in
        let z : SecondUndo ≡ r = cc in
        rw (← z) (second p)
    go false None p q =
        let y : Err r ≡ Err NoUndo = e ∙ said-10 ts p q in
        let z : NoUndo ≡ r = cc in
        rw (← z) (none p q)
    go false (Some s) p q =
        let y : Err r ≡ Ok (said s) = e ∙ said-is ts p q in
        absurd (let z : ◌≡◌ {A = ℕ} 0 1 = cc in omega arith)

-- the text that it says
pub record Stored (ts : List Item) (u : StoredUndo) : Type 0 where
  pub once : is_repeated undo_key ts ≡ false
  pub text : List ℕ
  pub is : stored_undo ts ≡ Some text
  pub said-is : u ≡ said text

pub stored : (ts : List Item) {u : StoredUndo} → Ok u ≡ undo_of ts → Stored ts u
unfolding undo_of
stored ts {u} e = go (is_repeated undo_key ts) (stored_undo ts) refl refl
  where
    go : (a : Bool) (o : Option (List ℕ)) → is_repeated undo_key ts ≡ a → stored_undo ts ≡ o → Stored ts u
    go true o p q =
        let y : Ok u ≡ Err SecondUndo = e ∙ said-14 ts p in
        absurd (let z : ◌≡◌ {A = ℕ} 0 1 = cc in omega arith)
    go false None p q =
        let y : Ok u ≡ Err NoUndo = e ∙ said-10 ts p q in
        absurd (let z : ◌≡◌ {A = ℕ} 0 1 = cc in omega arith)
    go false (Some s) p q =
        let y : Ok u ≡ Ok (said s) = e ∙ said-is ts p q in
        record { once = p; text = s; is = q; said-is = cc }
