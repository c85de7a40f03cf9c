-- What a file has that the gate passes.
use Prim.Native.Nat.{ℕ, ◌≤◌}
use mathlib.Core.Path.{◌≡◌, refl}
use mathlib.Core.Bool.{Bool, true, ◌&&◌, false≢true}
use Rattle.std.specs.Prelude.{Option, None, Some}
use mathlib.Core.List.{List, []}
use borrow.Author.Tests.{eqb-true, leb-true}
use Rattle.lists.specs.Choice.{found, is_some}
use Rattle.replies.specs.Limits.{count_limit}
use Rattle.items.specs.Items.{Item, parse}
use Rattle.ape.specs.Tag.{find_footer, version_at, size_at, count_at, area_at}
use Rattle.calls.specs.Gate.{is_version2, counts_footer, has_start, count_fits, area_fits, is_headed, fit, all_valid, gate_items, passes_gate, items_of}
use Rattle.calls.proofs.Lists.{both, cond-some, provided-some}

-- the items that it finds
pub gate-some : (s : List ℕ) → passes_gate s ≡ true → gate_items s ≡ Some (items_of s)
unfolding passes_gate items_of
gate-some s e = go (gate_items s) e
  where
    go : (o : Option (List Item)) → is_some o ≡ true → o ≡ Some (found o [] (λ ts. ts))
    go None e = absurd (false≢true e)
    go (Some ts) e = refl

module _ (s : List ℕ) (f : ℕ) where
  -- with a footer, all that it asks holds
  pub gate-footer : find_footer s ≡ Some f → passes_gate s ≡ true
      → (fit s f ≡ true) × (parse (count_at s f) (area_at s f) ≡ Some (items_of s)) × (all_valid (items_of s) ≡ true)
  unfolding gate_items
  gate-footer at e =
      let (c, d) = cond-some (fit s f) _ (items_of s) (rw at at (gate-some s e)) in
      let (p, v) = provided-some all_valid (parse (count_at s f) (area_at s f)) (items_of s) d in
      (c, p, v)

  -- each test of the footer
  pub fit-tests : fit s f ≡ true
      → (version_at s f ≡ 2000) × (32 ≤ size_at s f) × (has_start s f ≡ true) × (count_at s f ≤ count_limit) × (size_at s f ≤ 32800) × (is_headed s f ≡ true)
  unfolding fit
  fit-tests e =
      let z : Bool = counts_footer s f in
      let a : Bool = has_start s f in
      let c : Bool = count_fits s f in
      let d : Bool = area_fits s f in
      let g : Bool = is_headed s f in
      let (v, p) = both (is_version2 s f) (z && (a && (c && (d && g)))) e in
      let (q, r) = both z (a && (c && (d && g))) p in
      let (b, t) = both a (c && (d && g)) r in
      let (m, u) = both c (d && g) t in
      let (n, h) = both d g u in
      (eqb-true _ 2000 v, leb-true 32 _ q, b, leb-true _ count_limit m, leb-true _ 32800 n, h)
