-- Laws of the gate, by the tests of the code.
use Rattle.std.specs.Prelude.{Option, None, Some, Result, Ok, Err}
use Prim.Native.Nat.{ℕ, ◌+◌, ◌-◌, ◌≤◌, ◌<◌}
use native.Mathlib.Omega.{arith}
use mathlib.Core.Path.{◌≡◌, refl, sym, ap, ◌∙◌}
use mathlib.Core.Bool.{Bool, true, false, true≢false}
use mathlib.Core.List.{List, []}
use lib.ListN.{length}
use lib.Dec.{leb, ltb}
use borrow.Author.Tests.{le-leb, lt-leb, ltb-false, eq-eqb, ne_eqb}
use Rattle.lists.specs.Choice.{provided, is_some}
use Rattle.lists.specs.Le.{read_u32}
use Rattle.lists.specs.Write.{part}
use Rattle.lists.proofs.Places.{length_part}
use Rattle.replies.specs.Limits.{count_limit}
use Rattle.replies.specs.declared.Refusal.{Refusal}
use Rattle.replies.specs.declared.Refusal.TheVariants.{NotEditable}
use Rattle.frame.specs.Tail.{reach, start_of, tag_start}
use Rattle.items.specs.Items.{area_bytes, parse, items_in}
use Rattle.items.proofs.Area.{AllSane, area-length}
use Rattle.items.proofs.ItemLaws.{FlagsSane, sane-both, parse-keys}
use Rattle.ape.specs.Tag.{find_footer, started, version_at, size_at, count_at, area_at}
use Rattle.ape.proofs.Files.{footer-within, area-part}
use Rattle.calls.specs.Gate.{has_start, is_headed, fit, all_valid, gate_items, passes_gate, items_of}
use Rattle.calls.proofs.Gates.{gate-footer, fit-tests}
use Rattle.calls.proofs.Items.{valid-flags}
use Rattle.gate.specs.declared.TagArea.{TagArea}
use Rattle.gate.specs.Gate.{area_place, gate_of, Passed}

-- a tag that starts in the file and the size of its footer end where the footer does, or before
pub start-size : (s : List ℕ) (f a : ℕ) → tag_start s f ≡ Some a → a + size_at s f ≤ f + 32
unfolding tag_start start_of
start-size s f a e = go (leb (f + 32) (length s)) (ltb (f + 32) (reach (size_at s f) (read_u32 s (f + 20)))) refl refl
  where
    go : (t u : Bool) → leb (f + 32) (length s) ≡ t → ltb (f + 32) (reach (size_at s f) (read_u32 s (f + 20))) ≡ u → a + size_at s f ≤ f + 32
    go true true p q = let x : None ≡ Some a = rw (p, q) at e in absurd (let z : ◌≡◌ {A = ℕ} 0 1 = cc in omega arith)
    go true false p q =
        let x : Some (f + 32 - reach (size_at s f) (read_u32 s (f + 20))) ≡ Some a = rw (p, q) at e in
        let y : f + 32 - reach (size_at s f) (read_u32 s (f + 20)) ≡ a = cc in
        omega (arith, ltb-false (f + 32) (reach (size_at s f) (read_u32 s (f + 20))) q)
    go false u p q = let x : None ≡ Some a = rw p at e in absurd (let z : ◌≡◌ {A = ℕ} 0 1 = cc in omega arith)

-- ---- the answer

gate-shut : (s : List ℕ) → passes_gate s ≡ false → Err NotEditable ≡ gate_of s
unfolding gate_of
gate-shut s e = rw e

gate-open : (s : List ℕ) (f : ℕ) → find_footer s ≡ Some f → passes_gate s ≡ true → Ok (record { start = f + 32 - size_at s f; end = f; count = count_at s f }) ≡ gate_of s
unfolding gate_of area_place
gate-open s f at e = rw (e, at)

-- no footer: no items
gate-none : (s : List ℕ) → find_footer s ≡ None → (passes_gate s ≡ true) × (items_of s ≡ [])
unfolding passes_gate items_of gate_items
gate-none s e = rw e (refl, refl)

pub gate-empty : (s : List ℕ) → find_footer s ≡ None → Ok (record { start = 0; end = 0; count = 0 }) ≡ gate_of s
unfolding gate_of area_place
gate-empty s e = rw ((gate-none s e).0, e)

module _ (s : List ℕ) (f : ℕ) (at : find_footer s ≡ Some f) where
  -- ---- one test of the footer fails

  unfit : fit s f ≡ false → Err NotEditable ≡ gate_of s
  unfolding passes_gate gate_items
  unfit e = gate-shut s (rw (at, e))

  pub other-version : (version_at s f ≡ 2000 → ⊥) → Err NotEditable ≡ gate_of s
  unfolding fit
  other-version h = unfit (rw (ne_eqb _ _ h))

  module _ (v : version_at s f ≡ 2000) where
    pub no-footer-counted : size_at s f < 32 → Err NotEditable ≡ gate_of s
    unfolding fit
    no-footer-counted h = unfit (rw (eq-eqb _ _ v, lt-leb _ _ h))

    module _ (z : 32 ≤ size_at s f) where
      pub no_start : tag_start s f ≡ None → Err NotEditable ≡ gate_of s
      unfolding fit
      no_start e = unfit (rw (eq-eqb _ _ v, le-leb _ _ z, e))

      module _ (a : ℕ) (b : tag_start s f ≡ Some a) where
        pub many-items : count_limit < count_at s f → Err NotEditable ≡ gate_of s
        unfolding fit
        many-items h = unfit (rw (eq-eqb _ _ v, le-leb _ _ z, b, lt-leb _ _ h))

        module _ (n : count_at s f ≤ count_limit) where
          pub many-bytes : 32800 < size_at s f → Err NotEditable ≡ gate_of s
          unfolding fit
          many-bytes h = unfit (rw (eq-eqb _ _ v, le-leb _ _ z, b, le-leb _ _ n, lt-leb _ _ h))

          -- ---- all hold

          module _ (l : size_at s f ≤ 32800) where
            begun : has_start s f ≡ true
            begun = rw b

            pub no_header : is_headed s f ≡ false → Err NotEditable ≡ gate_of s
            unfolding fit
            no_header h = unfit (rw (eq-eqb _ _ v, le-leb _ _ z, begun, le-leb _ _ n, le-leb _ _ l) h)

            module _ (g : is_headed s f ≡ true) where
              fits : fit s f ≡ true
              unfolding fit
              fits = rw (eq-eqb _ _ v, le-leb _ _ z, begun, le-leb _ _ n, le-leb _ _ l) g

              gated : (t : Bool) → is_some (provided all_valid (parse (count_at s f) (area_at s f))) ≡ t → passes_gate s ≡ t
              unfolding passes_gate gate_items
              gated t e = rw (at, fits) e

              pub bad-items : is_some (provided all_valid (parse (count_at s f) (area_at s f))) ≡ false → Err NotEditable ≡ gate_of s
              bad-items e = gate-shut s (gated false e)

              pub good-items : is_some (provided all_valid (parse (count_at s f) (area_at s f))) ≡ true → Ok (record { start = f + 32 - size_at s f; end = f; count = count_at s f }) ≡ gate_of s
              good-items e = gate-open s f at (gated true e)

-- ---- what a caller learns from it

footer-passed : (s : List ℕ) (f : ℕ) → find_footer s ≡ Some f → passes_gate s ≡ true → Passed s (record { start = f + 32 - size_at s f; end = f; count = count_at s f })
footer-passed s f at e =
    let (fits, p, v) = gate-footer s f at e in
    let t = fit-tests s f fits in
    let k : size_at s f ≤ f + 32 = start (tag_start s f) refl t.2 in
    let same : part (f + 32 - size_at s f) f s ≡ area_at s f = area-part s f (f + 32 - size_at s f) (size_at s f) refl (omega arith) (λ h. refl) in
    record {
      passes = e;
      order = omega arith;
      within = omega (arith, footer-within s f at);
      good = rw (same, p);
      items = rw (same, p);
      few = t.3;
      short = omega arith;
    }
  where
    start : (a : Option ℕ) → tag_start s f ≡ a → started a false (λ n. true) ≡ true → size_at s f ≤ f + 32
    start (Some a) b h = omega (arith, start-size s f a b)
    start None b h = absurd (true≢false (sym h))

nothing-passed : (s : List ℕ) → find_footer s ≡ None → Passed s (record { start = 0; end = 0; count = 0 })
unfolding parse
nothing-passed s e =
    let (p, i) = gate-none s e in
    record { passes = p; order = omega arith; within = omega arith; good = refl; items = sym i; few = omega arith; short = omega arith }

-- an answer says whether the gate passes the file, and where its items stand
abbrev pub GateIs : List ℕ → Result TagArea Refusal → Type 0
GateIs s (Ok p) = Passed s p
GateIs s (Err r) = (passes_gate s ≡ false) × (r ≡ NotEditable)

pub gate-is : (s : List ℕ) (g : Result TagArea Refusal) → g ≡ gate_of s → GateIs s g
gate-is s g e = rw e (go (passes_gate s) refl)
  where
    passed : (x : Option ℕ) → find_footer s ≡ x → passes_gate s ≡ true → GateIs s (gate_of s)
    passed None q t = rw (← gate-empty s q) (nothing-passed s q)
    passed (Some f) q t = rw (← gate-open s f q t) (footer-passed s f q t)

    go : (t : Bool) → passes_gate s ≡ t → GateIs s (gate_of s)
    go true t = passed (find_footer s) refl t
    go false t = rw (← gate-shut s t) (t, refl)

module _ (s : List ℕ) {g : Result TagArea Refusal} (h : g ≡ gate_of s) where
  pub gate-unfit : {r : Refusal} → g ≡ Err r → (passes_gate s ≡ false) × (r ≡ NotEditable)
  gate-unfit e = rw e at (gate-is s g h)

  pub gate-passed : {p : TagArea} → g ≡ Ok p → Passed s p
  gate-passed e = rw e at (gate-is s g h)

  -- where the items stand
  pub gate-place : {p : TagArea} → g ≡ Ok p → (passes_gate s ≡ true) × (p ≡ area_place s)
  unfolding gate_of
  gate-place {p} e =
      let t = (gate-passed e).passes in
      let i : Ok p ≡ Ok (area_place s) = sym e ∙ h ∙ rw t in
      (t, cc)

-- the items of a file that is fit for editing can be read back: its flags are those that the gate lets pass
pub passed-sane : {s : List ℕ} {p : TagArea} → Passed s p → AllSane (items_in p.count (part p.start p.end s))
passed-sane {s} {p} x =
    sane-both (items_in p.count (part p.start p.end s)) (parse-keys p.count (part p.start p.end s)) (rw x.items (go (find_footer s) refl))
  where
    go : (x : Option ℕ) → find_footer s ≡ x → FlagsSane (items_of s)
    go None q = rw (gate-none s q).1 tt
    go (Some f) q = valid-flags (items_of s) (gate-footer s f q x.passes).2

-- the items of a file that is fit for editing have few bytes
pub short-items : {s : List ℕ} {p : TagArea} → Passed s p → length (area_bytes (items_of s)) ≤ 32768
short-items {s} {p} x =
    omega (arith, ap (λ ts. length (area_bytes ts)) x.items, area-length p.count (part p.start p.end s) x.good, length_part p.start p.end s x.within, x.short)
