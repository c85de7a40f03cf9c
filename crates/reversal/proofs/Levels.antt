-- Level calls on numbers alone: the stored undo item, the accepted calls in a row, and what undo by the stored item does.
use mathlib.Core.Path.{◌≡◌, refl, sym, ap, ◌∙◌, subst}
use mathlib.Core.Bool.{true}
use Rattle.std.specs.Prelude.{Option, None, Some, unwrap_or}
use Rattle.std.specs.Prelude.{option_map}
use mathlib.Core.List.{List, [], ◌∷◌, map}
use Prim.Native.Nat.{ℕ, ◌<◌}
use native.Mathlib.Omega.{arith}
use lib.IntN.{ℤ, pos, negsuc, neg_ℤ, ◌+ℤ◌, ◌-ℤ◌, +ℤ_assoc, +ℤ_idl, +ℤ_idr, neg_ℤ-+ℤ}
use lib.Signed.{mag}
use borrow.Author.Tests.{ltb-true, not-true}
use Rattle.lists.specs.Choice.{found}
use Rattle.frame.specs.declared.GainMode.{GainMode}
use Rattle.frame.specs.declared.GainMode.TheVariants.{Saturating, Wrapping}
use Rattle.frame.specs.Gain.{mode_of, adjust}
use Rattle.frame.specs.Steps.{sum}
use Rattle.frame.proofs.GainLists.{after_all, back_all}
use Rattle.values.specs.declared.UndoValues.{UndoValues}
use Rattle.values.specs.Undo.{format_undo, parse_undo, undo_wraps, sat32, accumulated}
use Rattle.items.specs.Items.{Item}
use Rattle.calls.specs.Calls.{Level, stored_undo, agrees, booked, is_undo_number, numbers_fit, wraps}
use Rattle.reversal.specs.Run.{Side, on_left, on_right, step_on}
use Rattle.calls.proofs.Lists.{both}
use Rattle.values.proofs.ReadBack.{undo-none, undo-back as text-back}

-- ---- an undo item as numbers

pub record Undo : Type 0 where
  pub left : ℤ
  pub right : ℤ
  pub mode : GainMode

unfoldable pub read_undo : List ℕ → Undo
read_undo s = record { left = (parse_undo s).left; right = (parse_undo s).right; mode = mode_of (undo_wraps s) }

unfoldable pub undo_in : List Item → Option Undo
undo_in ts = option_map read_undo (stored_undo ts)

-- without an item the numbers are 0
abbrev pub number : Side → Option Undo → ℤ
number side None = pos 0
number on_left (Some u) = u.left
number on_right (Some u) = u.right

-- the item, if there is one, has the call's flag
abbrev pub Agrees : Option Undo → GainMode → Type 0
Agrees None m = Unit {0}
Agrees (Some u) m = m ≡ u.mode

unfoldable pub accumulate : Side → Option Undo → Level → ℤ
accumulate side o l = sat32 (number side o -ℤ step_on side l)

unfoldable pub booked_by : Option Undo → Level → Undo
booked_by o l = record { left = accumulate on_left o l; right = accumulate on_right o l; mode = l.mode }

-- what level stores
booked-text : (o : Option (List ℕ)) (l : Level)
    → accumulated (unwrap_or o []) l.left l.right ≡ record { left = accumulate on_left (option_map read_undo o) l; right = accumulate on_right (option_map read_undo o) l }
unfolding accumulated accumulate read_undo
booked-text None l = rw undo-none.0
booked-text (Some s) l = refl

pub booked-is : (l : Level) (ts : List Item) → booked l ts ≡ record { left = accumulate on_left (undo_in ts) l; right = accumulate on_right (undo_in ts) l }
unfolding booked undo_in
booked-is l ts = booked-text (stored_undo ts) l

agrees-text : (m : GainMode) (o : Option (List ℕ)) → found o true (agrees m) ≡ true → Agrees (option_map read_undo o) m
unfolding read_undo
agrees-text m None e = tt
agrees-text Saturating (Some s) e = sym (ap mode_of (not-true (undo_wraps s) e))
agrees-text Wrapping (Some s) e = sym (ap mode_of e)

pub agrees-is : (m : GainMode) (ts : List Item) → found (stored_undo ts) true (agrees m) ≡ true → Agrees (undo_in ts) m
unfolding undo_in
agrees-is m ts e = agrees-text m (stored_undo ts) e

mode-back : (m : GainMode) → mode_of (wraps m) ≡ m
mode-back Saturating = refl
mode-back Wrapping = refl

number_small : (z : ℤ) → is_undo_number z ≡ true → mag z < 2147483648
number_small z e = omega (arith, ltb-true (mag z) 32768 e)

-- what refusal 11 lets pass is read back
pub undo-back : (u : UndoValues) (m : GainMode) → numbers_fit u ≡ true
    → read_undo (format_undo u.left u.right (wraps m)) ≡ record { left = u.left; right = u.right; mode = m }
unfolding read_undo
undo-back u m e =
    let (a, b) = both (is_undo_number u.left) (is_undo_number u.right) e in
    let (n, f) = text-back u.left u.right (wraps m) (number_small u.left a) (number_small u.right b) in
    rw (n, f, mode-back m)

-- ---- what acceptance says

sat-exact : (z : ℤ) → mag (sat32 z) < 32768 → sat32 z ≡ z
sat-exact (pos n) h = ap pos (omega arith)
sat-exact (negsuc n) h = ap negsuc (omega arith)

pub record Fair (o : Option Undo) (c : Level) : Type 0 where
  pub agreed : Agrees o c.mode
  pub exact : (side : Side) → accumulate side o c ≡ number side o -ℤ step_on side c

exact-on : (side : Side) (o : Option Undo) (c : Level) → is_undo_number (accumulate side o c) ≡ true → accumulate side o c ≡ number side o -ℤ step_on side c
unfolding accumulate
exact-on side o c t = sat-exact (number side o -ℤ step_on side c) (ltb-true _ 32768 t)

pub fair : (l : Level) (ts : List Item) → found (stored_undo ts) true (agrees l.mode) ≡ true → numbers_fit (booked l ts) ≡ true → Fair (undo_in ts) l
fair l ts a t =
    let o = undo_in ts in
    let (x, y) = both (is_undo_number (accumulate on_left o l)) (is_undo_number (accumulate on_right o l)) (rw (booked-is l ts) at t) in
    record { agreed = agrees-is l.mode ts a; exact = λ side. elim side as (λ one. accumulate one o l ≡ number one o -ℤ step_on one l) [ on_left ↦ exact-on on_left o l x | on_right ↦ exact-on on_right o l y ] }

-- ---- the accepted calls in a row

-- what level calls change: the stored item and the gains
pub record Desk : Type 0 where
  pub stored : Option Undo
  pub lefts : List ℕ
  pub rights : List ℕ

abbrev pub gains : Side → Desk → List ℕ
gains on_left d = d.lefts
gains on_right d = d.rights

unfoldable pub level_desk : Desk → Level → Desk
level_desk d c = record { stored = Some (booked_by d.stored c); lefts = map (adjust c.mode c.left) d.lefts; rights = map (adjust c.mode c.right) d.rights }

-- undo adjusts by the stored numbers under the stored flag
unfoldable pub undone_by : Side → Undo → List ℕ → List ℕ
undone_by side u gs = map (adjust u.mode (number side (Some u))) gs

unfoldable pub steps : Side → List Level → List ℤ
steps side [] = []
steps side (c ∷ cs) = step_on side c ∷ steps side cs

-- every call has the mode m
unfoldable pub AllOf : GainMode → List Level → Type 0
AllOf m [] = Unit {0}
AllOf m (c ∷ cs) = (c.mode ≡ m) × AllOf m cs

-- each call of the list is fair where it stands
abbrev pub Chain : Option Undo → List Level → Type 0
Chain o [] = Unit {0}
Chain o (c ∷ cs) = Fair o c × Chain (Some (booked_by o c)) cs

unfoldable pub perform : Desk → List Level → Desk
perform d [] = d
perform d (c ∷ cs) = perform (level_desk d c) cs

follow : (u : Undo) (cs : List Level) → Chain (Some u) cs → AllOf u.mode cs
unfolding AllOf booked_by
follow u [] k = tt
follow u (c ∷ cs) (f, k) =
    let e : c.mode ≡ u.mode = f.agreed in
    (e, subst (λ m. AllOf m cs) e (follow (booked_by (Some u) c) cs k))

-- ---- what the accepted calls leave

minus-sum : (u s t : ℤ) → (u -ℤ s) -ℤ t ≡ u -ℤ (s +ℤ t)
minus-sum u s t = +ℤ_assoc u (neg_ℤ s) (neg_ℤ t) ∙ ap (λ z. u +ℤ z) (sym (neg_ℤ-+ℤ s t))

number-booked : (side : Side) (o : Option Undo) (c : Level) → number side (Some (booked_by o c)) ≡ accumulate side o c
unfolding booked_by
number-booked on_left o c = refl
number-booked on_right o c = refl

gains-level : (side : Side) (d : Desk) (c : Level) → gains side (level_desk d c) ≡ map (adjust c.mode (step_on side c)) (gains side d)
unfolding level_desk
gains-level on_left d c = refl
gains-level on_right d c = refl

numbers : (side : Side) (d : Desk) (cs : List Level) → Chain d.stored cs → number side (perform d cs).stored ≡ number side d.stored -ℤ sum (steps side cs)
unfolding perform steps sum level_desk
numbers side d [] k = sym (+ℤ_idr _)
numbers side d (c ∷ cs) (f, k) =
    numbers side (level_desk d c) cs k
    ∙ ap (λ z. z -ℤ sum (steps side cs)) (number-booked side d.stored c ∙ f.exact side)
    ∙ minus-sum (number side d.stored) (step_on side c) (sum (steps side cs))

gains-are : (side : Side) (m : GainMode) (d : Desk) (cs : List Level) → AllOf m cs → gains side (perform d cs) ≡ after_all m (steps side cs) (gains side d)
unfolding perform AllOf steps after_all
gains-are side m d [] k = refl
gains-are side m d (c ∷ cs) (e, k) = gains-are side m (level_desk d c) cs k ∙ rw (gains-level, e)

-- the stored item has the calls' mode
item : (m : GainMode) (d : Desk) (c : Level) (cs : List Level) → AllOf m (c ∷ cs) → (u : Undo) × ((perform d (c ∷ cs)).stored ≡ Some u) × (u.mode ≡ m)
unfolding perform AllOf level_desk booked_by
item m d c [] (e, k) = (booked_by d.stored c, refl, e)
item m d c (c' ∷ cs) (e, k) = item m (level_desk d c) c' cs k

-- d₀ is the desk before the accepted calls, d after them; undo is what is stored then
pub record Reversed (d₀ d : Desk) (acc : List Level) : Type 0 where
  pub mode : GainMode
  pub one-mode : AllOf mode acc
  pub undo : Undo
  pub item : d.stored ≡ Some undo
  pub gone : (side : Side) → undone_by side undo (gains side d) ≡ back_all mode (steps side acc) (gains side d₀)

undone-back : (side : Side) (u : Undo) (m : GainMode) (ss : List ℤ) (gs hs : List ℕ) →
    u.mode ≡ m → number side (Some u) ≡ neg_ℤ (sum ss) → hs ≡ after_all m ss gs → undone_by side u hs ≡ back_all m ss gs
unfolding undone_by back_all
undone-back side u m ss gs hs e n p = rw (n, e, p)

pub performed : (d₀ : Desk) (acc : List Level) → d₀.stored ≡ None → Chain d₀.stored acc → ¬ (acc ≡ []) → Reversed d₀ (perform d₀ acc) acc
unfolding AllOf booked_by
performed d₀ [] z k some-accepted = absurd (some-accepted refl)
performed d₀ (c ∷ cs) z k some-accepted =
    let m : GainMode = c.mode in
    let a : AllOf m (c ∷ cs) = (refl, follow (booked_by d₀.stored c) cs k.1) in
    let (u, s, e) = item m d₀ c cs a in
    let o : (side : Side) → number side d₀.stored ≡ pos 0 = λ side. ap (number side) z in
    let n : (side : Side) → number side (Some u) ≡ neg_ℤ (sum (steps side (c ∷ cs)))
    = λ side. ap (number side) (sym s) ∙ numbers side d₀ (c ∷ cs) k ∙ ap (λ x. x -ℤ sum (steps side (c ∷ cs))) (o side) ∙ +ℤ_idl _ in
    record {
      mode = m;
      one-mode = a;
      undo = u;
      item = s;
      gone = λ side. undone-back side u m (steps side (c ∷ cs)) (gains side d₀) _ e (n side) (gains-are side m d₀ (c ∷ cs) a);
    }
