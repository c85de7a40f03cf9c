-- Laws of `all_valid`, one item after another.
use Prim.Native.Nat.{ℕ}
use mathlib.Core.Path.{◌≡◌, refl, sym}
use mathlib.Core.Bool.{Bool, true, false, cond, true≢false}
use Rattle.std.specs.Prelude.{Option, None, Some}
use mathlib.Core.List.{List, [], ◌∷◌}
use Rattle.lists.specs.Choice.{found, provided, is_some}
use Rattle.utf8.specs.Utf8.{valid}
use Rattle.items.specs.Items.{Item, is_binary}
use Rattle.calls.specs.Gate.{flags_fit, item_valid, all_valid}

pub valid-none : all_valid [] ≡ true
unfolding all_valid
valid-none = refl

module _ (t : Item) (ts : List Item) where
  pub bad-item : item_valid t ≡ false → all_valid (t ∷ ts) ≡ false
  unfolding all_valid
  bad-item e = rw e

  pub valid-more : item_valid t ≡ true → all_valid (t ∷ ts) ≡ all_valid ts
  unfolding all_valid
  valid-more e = rw e

-- ---- one item

pub by_parts : (t : Item) {f : ℕ} {k v : List ℕ} → f ≡ t.flags → k ≡ t.key → v ≡ t.value → item_valid (record { key = k; value = v; flags = f }) ≡ item_valid t
by_parts t {f} {k} {v} p q r = rw (p, q, r)

-- by the tests of the code

module _ (t : Item) where
  pub bad-flags : flags_fit t.flags ≡ false → false ≡ item_valid t
  unfolding item_valid
  bad-flags f = rw f

  module _ (f : flags_fit t.flags ≡ true) where
    pub bad-key : valid t.key ≡ false → false ≡ item_valid t
    unfolding item_valid
    bad-key k = rw (f, k)

    module _ (k : valid t.key ≡ true) where
      pub binary-item : is_binary t.flags ≡ true → true ≡ item_valid t
      unfolding item_valid
      binary-item b = rw (f, k, b)

      pub text-item : is_binary t.flags ≡ false → valid t.value ≡ item_valid t
      unfolding item_valid
      text-item b = rw (f, k, b)

-- items that pass a test are there, and are the items
pub provided-some : (p : List Item → Bool) (o : Option (List Item)) → is_some o ≡ true → is_some (provided p o) ≡ p (found o [] (λ ts. ts))
provided-some p None e = absurd (true≢false (sym e))
provided-some p (Some ts) e = go (p ts) refl
  where
    go : (b : Bool) → p ts ≡ b → is_some (cond (p ts) (Some ts) None) ≡ p ts
    go true q = rw q
    go false q = rw q

pub provided-none : (p : List Item → Bool) (o : Option (List Item)) → is_some o ≡ false → is_some (provided p o) ≡ false
provided-none p None e = refl
provided-none p (Some ts) e = absurd (true≢false e)
