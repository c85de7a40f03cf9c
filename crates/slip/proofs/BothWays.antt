-- A slip is read exactly if it has the form of document 01, and an accepted one has its steps in range.
use Prim.Native.Nat.{ℕ, suc, ◌+◌, ◌-◌, ◌*◌, ◌≤◌, ◌<◌}
use native.Mathlib.Omega.{arith}
use mathlib.Core.Path.{◌≡◌, refl, sym, ap, ◌∙◌}
use mathlib.Core.Bool.{Bool, true, false, not, ◌&&◌, ◌||◌, cond, and-eq-true_iff}
use Rattle.std.specs.Prelude.{Option, None, Some, option_map, Ok, Err}
use mathlib.Core.List.{List, [], ◌∷◌, ◌++◌}
use lib.ListN.{length, drop}
use lib.Seq.{drop-append_seam}
use lib.Dec.{eqb, leb}
use lib.IntN.{ℤ, pos, negsuc, nat_abs}
use borrow.Author.Tests.{eq-eqb, ne_eqb, eqb-true, leb-true, le-leb, not-true}
use Rattle.lists.specs.Bytes.{ascii, all, starts_with}
use Rattle.lists.specs.Choice.{found}
use Rattle.number.specs.Fields.{before, behind}
use Rattle.number.specs.Reading.{is_digit, digits_from, natural, is_minus, unsigned, with_sign, whole}
use Rattle.decimal.specs.Writing.{decimal, signed}
use Rattle.decimal.proofs.ReadBack.{digits-at-most, whole-signed}
use Rattle.frame.specs.declared.GainMode.{GainMode}
use Rattle.replies.specs.declared.Refusal.TheVariants.{StepOutOfRange, MalformedSlip}
use Rattle.replies.specs.Refusal.{need, refusal_of}
use Rattle.slip.specs.Slip.{step_text, step_line, mode_line, lines_form, slip_form, is_step, in_range, read_slip}
use Rattle.slip.specs.declared.Wish.{Wish}

-- ---- lines end at the first LF

clear : List ℕ → Bool
clear s = all (λ x. not (eqb x 10)) s

keep_apart : (x : ℕ) (t : Bool) → (not (eqb x 10) && t) ≡ true → (eqb x 10 ≡ false) × (t ≡ true)
keep_apart x t e = let (p, q) = (and-eq-true_iff (not (eqb x 10)) t).0 e in (not-true (eqb x 10) p, q)

before-clear : (s t : List ℕ) → clear s ≡ true → before 10 (s ++ (10 ∷ t)) ≡ s
unfolding before all clear
before-clear [] t e = refl
before-clear (x ∷ s) t e = let (p, q) = keep_apart x (clear s) e in rw p (ap (λ r. x ∷ r) (before-clear s t q))

behind-clear : (s t : List ℕ) → clear s ≡ true → behind 10 (s ++ (10 ∷ t)) ≡ Some t
unfolding behind all clear
behind-clear [] t e = refl
behind-clear (x ∷ s) t e = let (p, q) = keep_apart x (clear s) e in rw p (behind-clear s t q)

clear-append : (a b : List ℕ) → clear a ≡ true → clear b ≡ true → clear (a ++ b) ≡ true
unfolding all clear
clear-append [] b e f = f
clear-append (x ∷ a) b e f = let (p, q) = keep_apart x (clear a) e in rw p (clear-append a b q f)

-- the other way: the line, the LF and the rest are the whole
whole-cut : (s t : List ℕ) → behind 10 s ≡ Some t → s ≡ before 10 s ++ (10 ∷ t)
unfolding before behind
whole-cut [] t e = cc
whole-cut (x ∷ s) t e = go (eqb x 10) refl e (whole-cut s t)
  where
    go : (b : Bool) → eqb x 10 ≡ b → cond b (Some s) (behind 10 s) ≡ Some t → (behind 10 s ≡ Some t → s ≡ before 10 s ++ (10 ∷ t))
        → x ∷ s ≡ cond b [] (x ∷ before 10 s) ++ (10 ∷ t)
    go true u e i = let h : x ≡ 10 = eqb-true x 10 u in let q : s ≡ t = cc in cc
    go false u e i = ap (λ r. x ∷ r) (i e)

-- ---- a line is its name and a number

starts-self : (p s : List ℕ) → starts_with p (p ++ s) ≡ true
unfolding starts_with
starts-self [] s = refl
starts-self (x ∷ p) s = rw (eq-eqb x x refl) (starts-self p s)

starts-cut : (p s : List ℕ) → starts_with p s ≡ true → s ≡ p ++ drop (length p) s
unfolding starts_with
starts-cut [] s e = refl
starts-cut (x ∷ p) [] e = cc
starts-cut (x ∷ p) (y ∷ s) e =
    let (a, b) = (and-eq-true_iff (eqb x y) (starts_with p s)).0 e in
    let h : x ≡ y = eqb-true x y a in
    let t : s ≡ p ++ drop (length p) s = starts-cut p s b in
    rw h (ap (λ r. y ∷ r) t)

line-back : (name a : List ℕ) → step_line name (name ++ a) ≡ step_text a
unfolding step_line
line-back name a = rw (starts-self name a, drop-append_seam name a)

line-only : (name line : List ℕ) (z : ℤ) → step_line name line ≡ Some z → (line ≡ name ++ drop (length name) line) × (step_text (drop (length name) line) ≡ Some z)
unfolding step_line
line-only name line z e = go (starts_with name line) refl e
  where
    go : (b : Bool) → starts_with name line ≡ b → cond b (step_text (drop (length name) line)) None ≡ Some z → (line ≡ name ++ drop (length name) line) × (step_text (drop (length name) line) ≡ Some z)
    go true u e = (starts-cut name line u, e)
    go false u e = absurd (let y : ◌≡◌ {A = ℕ} 0 1 = cc in omega arith)

-- ---- a number holds no LF

digit_clear : (x : ℕ) → is_digit x ≡ true → eqb x 10 ≡ false
unfolding is_digit
digit_clear x e = ne_eqb x 10 (λ q. absurd (omega (arith, leb-true 48 x ((and-eq-true_iff (leb 48 x) (leb x 57)).0 e).0, q)))

digits-clear : (s : List ℕ) (n m : ℕ) → digits_from n s ≡ Some m → clear s ≡ true
unfolding digits_from all clear
digits-clear [] n m e = refl
digits-clear (x ∷ s) n m e = go (is_digit x) refl e (digits-clear s (10 * n + (x - 48)) m)
  where
    go : (t : Bool) → is_digit x ≡ t → cond t (digits_from (10 * n + (x - 48)) s) None ≡ Some m → (digits_from (10 * n + (x - 48)) s ≡ Some m → clear s ≡ true)
        → (not (eqb x 10) && clear s) ≡ true
    go true u e f = rw (digit_clear x u) (f e)
    go false u e f = absurd (let z : ◌≡◌ {A = ℕ} 0 1 = cc in omega arith)

natural-clear : (s : List ℕ) (m : ℕ) → natural s ≡ Some m → clear s ≡ true
unfolding natural
natural-clear [] m e = absurd (let z : ◌≡◌ {A = ℕ} 0 1 = cc in omega arith)
natural-clear (x ∷ s) m e = digits-clear (x ∷ s) 0 m e

sign_clear : (s : List ℕ) → clear (unsigned s) ≡ true → clear s ≡ true
unfolding unsigned all clear
sign_clear [] e = refl
sign_clear (x ∷ s) e = plus (eqb x 43) refl e
  where
    minus : (b : Bool) → eqb x 45 ≡ b → clear (cond b s (x ∷ s)) ≡ true → clear (x ∷ s) ≡ true
    minus true u e = rw (ne_eqb x 10 (λ q. absurd (omega (arith, eqb-true x 45 u, q)))) e
    minus false u e = e

    plus : (b : Bool) → eqb x 43 ≡ b → clear (cond (b || eqb x 45) s (x ∷ s)) ≡ true → clear (x ∷ s) ≡ true
    plus true u e = rw (ne_eqb x 10 (λ q. absurd (omega (arith, eqb-true x 43 u, q)))) e
    plus false u e = minus (eqb x 45) refl e

step_clear : (s : List ℕ) (z : ℤ) → step_text s ≡ Some z → clear s ≡ true
unfolding step_text whole
step_clear s z e = long (leb (length (unsigned s)) 5) e
  where
    number : (o : Option ℕ) → natural (unsigned s) ≡ o → option_map (with_sign (is_minus s)) o ≡ Some z → clear s ≡ true
    number None u e = absurd (let y : ◌≡◌ {A = ℕ} 0 1 = cc in omega arith)
    number (Some n) u e = sign_clear s (natural-clear (unsigned s) n u)

    long : (b : Bool) → cond b (option_map (with_sign (is_minus s)) (natural (unsigned s))) None ≡ Some z → clear s ≡ true
    long true e = number (natural (unsigned s)) refl e
    long false e = absurd (let y : ◌≡◌ {A = ℕ} 0 1 = cc in omega arith)

-- ---- both ways

some_is : {A : Type 0} {a b : A} → Some a ≡ Some b → a ≡ b
some_is e = cc

-- the text of two numbers and what follows them
unfoldable pub slip_text : List ℕ → List ℕ → List ℕ → List ℕ
slip_text a b rest = (ascii "left=" ++ a) ++ (10 ∷ ((ascii "right=" ++ b) ++ (10 ∷ rest)))

-- s is the text of a slip that asks for w
pub record Written (s : List ℕ) (w : Wish) : Type 0 where
  pub first : List ℕ
  pub second : List ℕ
  pub rest : List ℕ
  pub is : s ≡ slip_text first second rest
  pub left : step_text first ≡ Some w.left.0
  pub right : step_text second ≡ Some w.right.0
  pub mode : mode_line rest ≡ Some w.mode

left-clear : clear (ascii "left=") ≡ true
unfolding all clear
left-clear = refl

right-clear : clear (ascii "right=") ≡ true
unfolding all clear
right-clear = refl

-- every slip that the format allows is read
pub slip-back : (s : List ℕ) (w : Wish) → Written s w → slip_form s ≡ Some w
unfolding slip_form lines_form slip_text
slip-back s w h =
    let a = h.first in
    let b = h.second in
    let t : List ℕ = (ascii "right=" ++ b) ++ (10 ∷ h.rest) in
    let ca : clear (ascii "left=" ++ a) ≡ true = clear-append (ascii "left=") a left-clear (step_clear a w.left.0 h.left) in
    let cb : clear (ascii "right=" ++ b) ≡ true = clear-append (ascii "right=") b right-clear (step_clear b w.right.0 h.right) in
    rw (
      h.is,
      behind-clear (ascii "left=" ++ a) t ca,
      before-clear (ascii "left=" ++ a) t ca,
      behind-clear (ascii "right=" ++ b) h.rest cb,
      before-clear (ascii "right=" ++ b) h.rest cb,
      line-back (ascii "left=") a,
      line-back (ascii "right=") b,
      h.left,
      h.right,
      h.mode,
    )

-- and nothing else is
pub slip-only : (s : List ℕ) (w : Wish) → slip_form s ≡ Some w → Written s w
unfolding slip_form lines_form slip_text
slip-only s w e = cut (behind 10 s) refl e
  where
    build : (t u : List ℕ) (l r : ℤ) (m : Option GainMode) → behind 10 s ≡ Some t → behind 10 t ≡ Some u
        → step_line (ascii "left=") (before 10 s) ≡ Some l → step_line (ascii "right=") (before 10 t) ≡ Some r → mode_line u ≡ Some m
        → Written s (record { left = record { 0 = l }; right = record { 0 = r }; mode = m })
    build t u l r m es et el er em =
        let (nl, vl) = line-only (ascii "left=") (before 10 s) l el in
        let (nr, vr) = line-only (ascii "right=") (before 10 t) r er in
        let ws : s ≡ before 10 s ++ (10 ∷ t) = whole-cut s t es in
        let wt : t ≡ before 10 t ++ (10 ∷ u) = whole-cut t u et in
        let a = drop (length (ascii "left=")) (before 10 s) in
        let b = drop (length (ascii "right=")) (before 10 t) in
        let tail : t ≡ (ascii "right=" ++ b) ++ (10 ∷ u) = wt ∙ ap (λ (x : List ℕ). x ++ (10 ∷ u)) nr in
        record {
          first = a;
          second = b;
          rest = u;
          is = ws ∙ ap (λ (x : List ℕ). x ++ (10 ∷ t)) nl ∙ ap (λ (x : List ℕ). (ascii "left=" ++ a) ++ (10 ∷ x)) tail;
          left = vl;
          right = vr;
          mode = em;
        }

    modes : (t u : List ℕ) (l r : ℤ) (o : Option (Option GainMode)) → behind 10 s ≡ Some t → behind 10 t ≡ Some u
        → step_line (ascii "left=") (before 10 s) ≡ Some l → step_line (ascii "right=") (before 10 t) ≡ Some r → mode_line u ≡ o
        → option_map (λ m. record { left = record { 0 = l }; right = record { 0 = r }; mode = m }) o ≡ Some w → Written s w
    modes t u l r None es et el er em e = absurd (let z : ◌≡◌ {A = ℕ} 0 1 = cc in omega arith)
    modes t u l r (Some m) es et el er em e =
        let q : ◌≡◌ {A = Wish} (record { left = record { 0 = l }; right = record { 0 = r }; mode = m }) w = some_is e in
        rw (← q) (build t u l r m es et el er em)

    rights : (t u : List ℕ) (l : ℤ) (o : Option ℤ) → behind 10 s ≡ Some t → behind 10 t ≡ Some u
        → step_line (ascii "left=") (before 10 s) ≡ Some l → step_line (ascii "right=") (before 10 t) ≡ o
        → found o None (λ r. option_map (λ m. record { left = record { 0 = l }; right = record { 0 = r }; mode = m }) (mode_line u)) ≡ Some w → Written s w
    rights t u l None es et el er e = absurd (let z : ◌≡◌ {A = ℕ} 0 1 = cc in omega arith)
    rights t u l (Some r) es et el er e = modes t u l r (mode_line u) es et el er refl e

    lefts : (t u : List ℕ) (o : Option ℤ) → behind 10 s ≡ Some t → behind 10 t ≡ Some u → step_line (ascii "left=") (before 10 s) ≡ o
        → found o None (λ l. found (step_line (ascii "right=") (before 10 t)) None (λ r. option_map (λ m. record { left = record { 0 = l }; right = record { 0 = r }; mode = m }) (mode_line u))) ≡ Some w
        → Written s w
    lefts t u None es et el e = absurd (let z : ◌≡◌ {A = ℕ} 0 1 = cc in omega arith)
    lefts t u (Some l) es et el e = rights t u l (step_line (ascii "right=") (before 10 t)) es et el refl e

    again : (t : List ℕ) (o : Option (List ℕ)) → behind 10 s ≡ Some t → behind 10 t ≡ o → found o None (λ u. lines_form (before 10 s) (before 10 t) u) ≡ Some w → Written s w
    again t None es et e = absurd (let z : ◌≡◌ {A = ℕ} 0 1 = cc in omega arith)
    again t (Some u) es et e = lefts t u (step_line (ascii "left=") (before 10 s)) es et refl e

    cut : (o : Option (List ℕ)) → behind 10 s ≡ o → found o None (λ t. found (behind 10 t) None (λ u. lines_form (before 10 s) (before 10 t) u)) ≡ Some w → Written s w
    cut None es e = absurd (let z : ◌≡◌ {A = ℕ} 0 1 = cc in omega arith)
    cut (Some t) es e = again t (behind 10 t) es refl e

-- numbers of five digits, as they are written elsewhere, are read
pub step_back : (z : ℤ) → nat_abs z < 100000 → step_text (signed z) ≡ Some z
unfolding step_text signed unsigned
step_back (pos n) h = rw (le-leb (length (decimal 3 7 n)) 5 (digits-at-most 5 3 7 n (omega arith) h)) (whole-signed (pos n) (omega arith))
step_back (negsuc n) h = rw (le-leb (length (decimal 3 7 (suc n))) 5 (digits-at-most 5 3 7 (suc n) (omega arith) h)) (whole-signed (negsuc n) (omega arith))

-- ---- the answers

-- 13 exactly for a bad form
pub answer-malformed : (s : List ℕ) → slip_form s ≡ None → read_slip s ≡ Err MalformedSlip
answer-malformed s e = rw e

-- 2 exactly for a good form with a number out of range, and else the steps
pub answer-good : (s : List ℕ) (w : Wish) → slip_form s ≡ Some w → read_slip s ≡ cond (in_range w) (Ok w) (Err StepOutOfRange)
answer-good s w e = rw e (go (is_step w.left.0) (is_step w.right.0))
  where
    go : (a b : Bool) → found (refusal_of (need MalformedSlip true ∷ need StepOutOfRange (a && b) ∷ [])) (Ok w) (λ r. Err r) ≡ cond (a && b) (Ok w) (Err StepOutOfRange)
    go true true = refl
    go true false = refl
    go false b = refl

-- an accepted slip's steps are in range
pub slip-steps : (s : List ℕ) (w : Wish) → read_slip s ≡ Ok w → (nat_abs w.left.0 ≤ 255) × (nat_abs w.right.0 ≤ 255)
slip-steps s w e = go (slip_form s) refl
  where
    judged : (v : Wish) (a b : Bool) → is_step v.left.0 ≡ a → is_step v.right.0 ≡ b → cond (a && b) (Ok v) (Err StepOutOfRange) ≡ Ok w
        → (nat_abs w.left.0 ≤ 255) × (nat_abs w.right.0 ≤ 255)
    judged v true true p q e =
        let h : v ≡ w = cc in
        rw (← h) (leb-true (nat_abs v.left.0) 255 p, leb-true (nat_abs v.right.0) 255 q)
    judged v true false p q e = absurd (let z : ◌≡◌ {A = ℕ} 0 1 = cc in omega arith)
    judged v false b p q e = absurd (let z : ◌≡◌ {A = ℕ} 0 1 = cc in omega arith)

    go : (o : Option Wish) → slip_form s ≡ o → (nat_abs w.left.0 ≤ 255) × (nat_abs w.right.0 ≤ 255)
    go None f = let h : Err MalformedSlip ≡ Ok w = sym (answer-malformed s f) ∙ e in absurd (let z : ◌≡◌ {A = ℕ} 0 1 = cc in omega arith)
    go (Some v) f = judged v (is_step v.left.0) (is_step v.right.0) refl refl (sym (answer-good s v f) ∙ e)
